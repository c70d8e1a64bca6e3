use Rattle.tt_kinds.proofs.BareLaws.{ty-parts}
use Rattle.tt_interner.specs.Rows.{meaning}
use Rattle.tt_print.specs.Text.{names}
use Rattle.tt_print.proofs.PrintKinds.{ty-alone}
use Rattle.tt_print.proofs.PrintSteps.{printed-same}
use Rattle.tt_print.proofs.ir_print.values.TyKindIrPrint.print.Goals as goal

pub print_kind-requires : goal.print_kind-requires
print_kind-requires c = ty-parts _ _ c.requires

pub returns-clause-ok : goal.returns-clause-ok
returns-clause-ok c =
    printed-same _ _ _ _ _ (ty-alone (names c.args.cx.now.rows) (meaning c.args.cx.now.rows) c.args.self.now) c.print_kind.ensures.ok
