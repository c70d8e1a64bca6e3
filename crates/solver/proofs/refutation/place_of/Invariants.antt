use Rattle.std.specs.Prelude.{◌≡◌}
use Rattle.solver.specs.Program.{goal_in}
use Rattle.solver.proofs.OutcomeLaws.{HoldsBelow}
use Rattle.solver.proofs.refutation.place_of.Given as goal

-- none of the first goals is the goal
abbrev pub invariant-loop-index : goal.invariant-loop-index
invariant-loop-index l = HoldsBelow (λ other. goal_in l.cx l.goal ≡ goal_in l.cx other → ⊥) l.goals l.index
