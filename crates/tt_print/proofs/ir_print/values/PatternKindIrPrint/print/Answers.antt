use Rattle.std.proofs.Common.{ℕ, sym, subst}
use Rattle.tt_kinds.specs.Bare.{bare_pattern_form}
use Rattle.tt_interner.specs.Rows.{size, meaning}
use Rattle.tt_print.specs.Text.{Head, names}
use Rattle.tt_print.specs.Spelling.{IsNamedSubject}
use Rattle.tt_print.specs.declared.ir_print.layout.Style.TheVariants as style
use Rattle.tt_print.proofs.PrintLaws.{record-named, record-spelled}
use Rattle.tt_print.proofs.PrintSteps.{printed-same}
use Rattle.tt_print.proofs.ir_print.values.PatternKindIrPrint.print.Goals as goal

pub print_record-requires-clause-named : goal.print_record-requires-clause-named
print_record-requires-clause-named c =
    subst (λ (h : Head ℕ). IsNamedSubject (size c.args.cx.now.rows) h.subject) (sym c.pattern_spelling-spelling.ensures.head)
    (record-named (size c.args.cx.now.rows) style.Joined (bare_pattern_form c.args.self.now).label c.requires.1)

pub returns-clause-ok : goal.returns-clause-ok
returns-clause-ok c =
    let spelling = c.pattern_spelling-spelling in
    printed-same _ _ _ _ _
    (record-spelled (names c.args.cx.now.rows) (meaning c.args.cx.now.rows) spelling.result (bare_pattern_form c.args.self.now) spelling.ensures.head spelling.ensures.style)
    (rw c.parts.ensures at c.print_record.ensures.ok)
