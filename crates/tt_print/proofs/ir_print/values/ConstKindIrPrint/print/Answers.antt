use Rattle.tt_kinds.proofs.BareLaws.{const-parts}
use Rattle.tt_interner.specs.Rows.{meaning}
use Rattle.tt_print.specs.Text.{names}
use Rattle.tt_print.proofs.PrintKinds.{const-alone}
use Rattle.tt_print.proofs.PrintSteps.{printed-same}
use Rattle.tt_print.proofs.ir_print.values.ConstKindIrPrint.print.Goals as goal

pub print_kind-requires : goal.print_kind-requires
print_kind-requires c = const-parts _ _ c.requires

pub returns-clause-ok : goal.returns-clause-ok
returns-clause-ok c =
    printed-same _ _ _ _ _ (const-alone (names c.args.cx.now.rows) (meaning c.args.cx.now.rows) c.args.self.now) c.print_kind.ensures.ok
