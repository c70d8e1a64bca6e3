use Rattle.tt_kinds.specs.Kinds.{arg_shape}
use Rattle.tt_interner.specs.Owned.{AreOwned}
use Rattle.solver.proofs.arguments.never_arguments.Given as goal

-- the arguments are the interner's
abbrev pub invariant-loop : goal.invariant-loop
invariant-loop l = AreOwned arg_shape l.cx l.items.items
