use Rattle.solver.specs.Search.{Continues}
use Rattle.solver.proofs.refuter.refute_goal.Given as goal

-- the table goes on
abbrev pub invariant-loop-number : goal.invariant-loop-number
invariant-loop-number l = Continues l.initial.cx l.initial.search.bindings l.cx l.search.bindings
