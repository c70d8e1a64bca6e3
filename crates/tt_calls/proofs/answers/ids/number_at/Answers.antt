use Rattle.std.proofs.Common.{refl}
use Rattle.tt_calls.proofs.answers.ids.number_at.Goals as goal

pub returns-in-Some : goal.returns-in-Some
returns-in-Some c = λ rows. rw (c.number.ensures, c.in-Some.ensures rows) refl

pub returns-in-None : goal.returns-in-None
returns-in-None c = λ rows. rw (c.in-None.ensures rows) refl
