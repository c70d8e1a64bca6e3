use Rattle.std.proofs.Common.{ap, sym, subst}
use Rattle.tt_kinds.specs.Shape.{IsPart, Shape, fill}
use Rattle.tt_interner.specs.Rows.{meaning, size}
use Rattle.tt_print.specs.Text.{names, text}
use Rattle.tt_print.proofs.PrintKinds.{projection-alone}
use Rattle.tt_print.proofs.PrintSteps.{printed-same}
use Rattle.tt_print.proofs.ir_print.values.ProjectionPredicateIrPrint.print.Goals as goal

pub print-requires : goal.print-requires
print-requires c = subst (IsPart (size c.args.cx.now.rows)) (sym (projection-alone c.args.self.now)) c.requires

pub returns-clause-ok : goal.returns-clause-ok
returns-clause-ok c =
    printed-same _ _ _ _ _
    (ap (λ (s : Shape). text (names c.args.cx.now.rows) (fill (meaning c.args.cx.now.rows) s)) (projection-alone c.args.self.now)) c.print.ensures.ok
