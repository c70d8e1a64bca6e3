use Rattle.std.proofs.Common.{refl}
use Rattle.tt_calls.proofs.build.types.alias_kind.Goals as goal

pub returns-in-Projection : goal.returns-in-Projection
returns-in-Projection c = λ rows. rw (c.in-Projection.is, c.from_number.ensures, c.number_at.ensures rows) refl

pub returns-in-Inherent : goal.returns-in-Inherent
returns-in-Inherent c = λ rows. rw (c.in-Inherent.is, c.from_number-in-Inherent.ensures, c.number_at-in-Inherent.ensures rows) refl

pub returns-in-Opaque : goal.returns-in-Opaque
returns-in-Opaque c = λ rows. rw (c.in-Opaque.is, c.from_number-in-Opaque.ensures, c.number_at-in-Opaque.ensures rows) refl

pub returns-in-Free : goal.returns-in-Free
returns-in-Free c = λ rows. rw (c.in-Free.is, c.from_number-in-Free.ensures, c.number_at-in-Free.ensures rows) refl
