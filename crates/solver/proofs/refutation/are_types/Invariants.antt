use Rattle.std.specs.Prelude.{IsSome}
use Rattle.tt_kinds.specs.GenericArg.{type_of}
use Rattle.solver.proofs.OutcomeLaws.{HoldsBelow}
use Rattle.solver.proofs.refutation.are_types.Given as goal

-- the first arguments are types
abbrev pub invariant-loop-index : goal.invariant-loop-index
invariant-loop-index l = HoldsBelow (λ a. IsSome (type_of a)) l.items l.index
