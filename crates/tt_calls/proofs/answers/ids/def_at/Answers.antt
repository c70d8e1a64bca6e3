use Rattle.std.proofs.Common.{refl}
use Rattle.tt_calls.proofs.answers.ids.def_at.Goals as goal

pub returns : goal.returns
returns c = λ rows. rw (c.from_number.ensures, c.number_at.ensures rows) refl
