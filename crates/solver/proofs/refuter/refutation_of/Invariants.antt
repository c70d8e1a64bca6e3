use Rattle.solver.specs.Search.{Continues}
use Rattle.solver.proofs.refuter.refutation_of.Given as goal

-- the table goes on
abbrev pub invariant-loop-index : goal.invariant-loop-index
invariant-loop-index l = Continues l.initial.cx l.initial.search.bindings l.cx l.search.bindings
