use Rattle.tt_kinds.specs.Kinds.{ty_shape}
use Rattle.tt_interner.specs.Owned.{AreOwned}
use Rattle.solver_programs.proofs.types.types_of.Given as goal

-- the types are the interner's
abbrev pub invariant-loop-index : goal.invariant-loop-index
invariant-loop-index l = AreOwned ty_shape l.cx l.found.items
