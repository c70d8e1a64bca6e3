use Rattle.tt_kinds.specs.declared.table.Table.TheVariants.{Types}
use Rattle.tt_interner.specs.Rows.{age}
use Rattle.fold_tests.proofs.tests.taken_apart.+referent.Given as goal

-- what a kind holds came before the type
abbrev pub decreases-referent : goal.decreases-referent
decreases-referent l = age l.cx.now.rows Types l.ty.number
