use Rattle.tt_kinds.specs.Kinds.{existential_form}
use Rattle.tt_interner.specs.Rows.{meaning}
use Rattle.tt_print.specs.Text.{names}
use Rattle.tt_print.proofs.PrintLaws.{record-spelled}
use Rattle.tt_print.proofs.PrintSteps.{printed-same}
use Rattle.tt_print.proofs.ir_print.values.ExistentialPredicateIrPrint.print.Goals as goal

pub returns-clause-ok : goal.returns-clause-ok
returns-clause-ok c =
    let spelling = c.existential_spelling-spelling in
    printed-same _ _ _ _ _
    (record-spelled (names c.args.cx.now.rows) (meaning c.args.cx.now.rows) spelling.result (existential_form c.args.self.now) spelling.ensures.head spelling.ensures.style)
    (rw c.parts.ensures at c.print_record.ensures.ok)
