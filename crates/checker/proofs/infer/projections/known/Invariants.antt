use Rattle.tt_kinds.specs.Kinds.{ty_shape}
use Rattle.tt_interner.specs.Owned.{IsOwned}
use Rattle.checker.proofs.infer.projections.known.Given as goal

-- the type is the interner's
abbrev pub invariant-loop : goal.invariant-loop
invariant-loop l = IsOwned ty_shape l.cx l.ty
