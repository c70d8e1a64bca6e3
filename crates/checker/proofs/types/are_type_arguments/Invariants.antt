use Rattle.checker.proofs.ArgumentLaws.{AreTypesBelow}
use Rattle.checker.proofs.types.are_type_arguments.Given as goal

-- the first arguments are types
abbrev pub invariant-loop-index : goal.invariant-loop-index
invariant-loop-index l = AreTypesBelow l.items l.index
