use Rattle.tt_interner.specs.Stored.{Extends}
use Rattle.solver.specs.Program.{goal_in, goals_in, impls_in}
use Rattle.solver.specs.Refutation.{IsUnfounded}
use Rattle.solver.proofs.OutcomeLaws.{HoldsBelow}
use Rattle.solver.proofs.refutation.refute.Given as goal

-- the first goals have no reason to be derived
abbrev pub invariant-loop-index : goal.invariant-loop-index
invariant-loop-index l = record {
  extends : Extends l.initial.cx l.cx;
  unfounded : HoldsBelow (λ goal. IsUnfounded (impls_in l.initial.cx l.program) (goals_in l.initial.cx l.assumptions)
      (goals_in l.initial.cx l.goals) (goal_in l.initial.cx goal)) l.goals l.index;
}
