use Rattle.tt_interner.specs.Rows.{meaning}
use Rattle.tt_print.specs.Text.{names}
use Rattle.tt_print.proofs.PrintParts.{child-spelled}
use Rattle.tt_print.proofs.PrintSteps.{printed-same}
use Rattle.tt_print.proofs.ir_print.print_child.Goals as goal

pub returns-clause-ok : goal.returns-clause-ok
returns-clause-ok c =
    printed-same _ _ _ _ _
    (child-spelled (names c.args.cx.now.rows) (meaning c.args.cx.now.rows) c.worded-spelling.result c.args.child.now c.worded-spelling.ensures.head c.worded-spelling.ensures.style)
    (rw c.one.ensures at c.print_record.ensures.ok)
