use Rattle.tt_interner.specs.Stored.{Extends}
use Rattle.solver.specs.Program.{goal_in, goals_in, impl_in}
use Rattle.solver.specs.Refutation.{NeedsOneOf}
use Rattle.solver.proofs.OutcomeLaws.{HoldsBelow}
use Rattle.solver.proofs.refutation.check_goal.Given as goal

-- the goal needs one of the goals at each of the first implementations
abbrev pub invariant-loop-number : goal.invariant-loop-number
invariant-loop-number l = record {
  extends : Extends l.initial.cx l.cx;
  needs : HoldsBelow (λ i. NeedsOneOf (goals_in l.initial.cx l.goals) (goal_in l.initial.cx l.goal) (impl_in l.initial.cx i)) l.program l.number;
}
