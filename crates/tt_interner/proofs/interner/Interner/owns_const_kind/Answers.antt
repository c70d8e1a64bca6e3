use Rattle.tt_kinds.proofs.BareLaws.{const-bare, const-parts}
use Rattle.tt_interner.proofs.interner.Interner.owns_const_kind.Goals as goal

pub returns-clause-bare : goal.returns-clause-bare
returns-clause-bare c = (λ yes. const-bare _ _ (c.owns_contents.ensures.0 yes), λ part. c.owns_contents.ensures.1 (const-parts _ _ part))
