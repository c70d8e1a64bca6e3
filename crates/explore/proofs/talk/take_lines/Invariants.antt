use Rattle.tt_calls.specs.Told.{AreOwnedAnswers}
use Rattle.explore.proofs.talk.take_lines.Given as goal

abbrev pub invariant-loop-number : goal.invariant-loop-number
invariant-loop-number g l = AreOwnedAnswers l.cx.rows l.answers.items
