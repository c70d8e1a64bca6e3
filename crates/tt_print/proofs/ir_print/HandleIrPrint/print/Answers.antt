use Rattle.tt_kinds.specs.Shape.{fill, fill_all}
use Rattle.tt_print.proofs.ir_print.HandleIrPrint.print.Goals as goal

pub print_child-requires : goal.print_child-requires
print_child-requires g c = rw c.child.ensures (rw g.met.K.IsTermRow.same_table c.requires, tt)

pub returns-clause-ok : goal.returns-clause-ok
unfolding fill fill_all
returns-clause-ok g c = rw (← g.met.K.IsTermRow.same_table) (rw c.child.ensures at c.print_child.ensures.ok)
