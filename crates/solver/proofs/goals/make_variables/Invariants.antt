use Rattle.solver.specs.Search.{Continues}
use Rattle.solver.proofs.goals.make_variables.Given as goal

-- the table goes on
abbrev pub invariant-loop : goal.invariant-loop
invariant-loop l = Continues l.initial.cx l.initial.bindings l.cx l.bindings
