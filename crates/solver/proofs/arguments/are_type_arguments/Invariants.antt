use Rattle.solver.proofs.ArgumentLaws.{IsTypeAt}
use Rattle.solver.proofs.OutcomeLaws.{HoldsBelow}
use Rattle.solver.proofs.arguments.are_type_arguments.Given as goal

-- the first arguments are types
abbrev pub invariant-loop-index : goal.invariant-loop-index
invariant-loop-index l = HoldsBelow (IsTypeAt l.cx) l.items l.index
