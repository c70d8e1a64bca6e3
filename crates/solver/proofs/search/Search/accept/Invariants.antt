use Rattle.std.proofs.Common.{◌≡◌}
use Rattle.solver.proofs.search.Search.accept.Given as goal

-- the bindings stay
abbrev pub invariant-loop-line : goal.invariant-loop-line
invariant-loop-line l = l.self.bindings ≡ l.initial.self.bindings
