use Rattle.tt_kinds.proofs.BareLaws.{ty-bare, ty-parts}
use Rattle.tt_interner.proofs.interner.Interner.owns_kind.Goals as goal

pub returns-clause-bare : goal.returns-clause-bare
returns-clause-bare c = (λ yes. ty-bare _ _ (c.owns_contents.ensures.0 yes), λ part. c.owns_contents.ensures.1 (ty-parts _ _ part))
