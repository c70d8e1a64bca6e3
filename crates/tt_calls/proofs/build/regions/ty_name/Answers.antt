use Rattle.std.proofs.Common.{refl}
use Rattle.tt_calls.proofs.build.regions.ty_name.Goals as goal

pub returns-in-Anon : goal.returns-in-Anon
returns-in-Anon c = λ rows. rw (c.in-Anon.is) refl

pub returns-in-Param : goal.returns-in-Param
returns-in-Param c = λ rows. rw (c.in-Param.is, ← c.def_at.ensures rows) refl
