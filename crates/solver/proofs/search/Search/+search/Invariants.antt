use Rattle.std.proofs.Common.{◌+◌, ◌*◌}
use Rattle.solver.specs.Search.{Continues}
use Rattle.solver.proofs.search.Search.+search.Given as goal

abbrev pub decreases-choose : goal.decreases-choose
decreases-choose l = 9 * l.depth + 8

abbrev pub decreases-alternative : goal.decreases-alternative
decreases-alternative l = 9 * l.depth + 7

abbrev pub decreases-attempt : goal.decreases-attempt
decreases-attempt l = 9 * l.depth + 6

abbrev pub decreases-apply : goal.decreases-apply
decreases-apply l = 9 * l.depth + 5

abbrev pub decreases-implement : goal.decreases-implement
decreases-implement l = 9 * l.depth + 4

abbrev pub decreases-solve_rounds : goal.decreases-solve_rounds
decreases-solve_rounds l = 9 * l.depth + 3

abbrev pub decreases-solve_round : goal.decreases-solve_round
decreases-solve_round l = 9 * l.depth + 2

abbrev pub decreases-solve_goal : goal.decreases-solve_goal
decreases-solve_goal l = 9 * l.depth + 1

abbrev pub invariant-choose-loop-index : goal.invariant-choose-loop-index
invariant-choose-loop-index l = Continues l.initial.cx l.initial.self.bindings l.cx l.self.bindings

abbrev pub invariant-solve_rounds-loop : goal.invariant-solve_rounds-loop
invariant-solve_rounds-loop l = Continues l.initial.cx l.initial.self.bindings l.cx l.self.bindings

abbrev pub invariant-solve_round-loop-index : goal.invariant-solve_round-loop-index
invariant-solve_round-loop-index l = Continues l.initial.cx l.initial.self.bindings l.cx l.self.bindings
