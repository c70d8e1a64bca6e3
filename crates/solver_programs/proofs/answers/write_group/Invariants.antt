use Rattle.tt_interner.specs.Stored.{Extends}
use Rattle.solver_programs.proofs.answers.write_group.Given as goal

-- the interner has only grown
abbrev pub invariant-loop-number : goal.invariant-loop-number
invariant-loop-number l = Extends l.initial.cx l.cx
