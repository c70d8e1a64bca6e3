use Rattle.tt_calls.specs.Told.{AreOwnedAnswers}
use Rattle.type_terms.proofs.run.script.answer_lines.Given as goal

abbrev pub invariant-loop-line : goal.invariant-loop-line
invariant-loop-line l = AreOwnedAnswers l.cx.rows l.answers.items

abbrev pub invariant-loop-piece : goal.invariant-loop-piece
invariant-loop-piece l = AreOwnedAnswers l.cx.rows l.answers.items
