use Rattle.tt_interner.specs.Stored.{Extends}
use Rattle.solver_programs.proofs.goals.goals_of.Given as goal

-- the interner has only grown
abbrev pub invariant-loop-index : goal.invariant-loop-index
invariant-loop-index l = Extends l.initial.cx l.cx
