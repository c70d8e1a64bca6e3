use Rattle.solver.specs.Program.{goal_in}
use Rattle.solver.specs.Written.{IsGround}
use Rattle.solver.proofs.OutcomeLaws.{HoldsBelow}
use Rattle.solver.proofs.refutation.are_ground.Given as goal

-- the first goals hold no variable
abbrev pub invariant-loop-index : goal.invariant-loop-index
invariant-loop-index l = HoldsBelow (λ goal. IsGround (goal_in l.cx goal)) l.goals l.index
