use Rattle.tt_kinds.specs.Kinds.{arg_shape}
use Rattle.tt_interner.specs.Owned.{AreOwned}
use Rattle.solver_programs.proofs.types.arguments_of.Given as goal

-- the arguments are the interner's
abbrev pub invariant-loop-index : goal.invariant-loop-index
invariant-loop-index l = AreOwned arg_shape l.cx l.found.items
