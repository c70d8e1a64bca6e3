use Rattle.std.proofs.Common.{length}
use Rattle.cases.proofs.answers.+owns_answers.Given as goal

-- the answers that are left
abbrev pub decreases-owns_answers : goal.decreases-owns_answers
decreases-owns_answers l = length l.answers.now
