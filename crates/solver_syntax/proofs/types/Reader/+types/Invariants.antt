use Rattle.std.proofs.Common.{◌+◌, ◌*◌, ◌≤◌}
use Rattle.checker_syntax.specs.Tokens.{tokens_left}
use Rattle.solver_syntax.proofs.types.Reader.+types.Given as goal

-- the functions that read a type call one another in this order at one level
abbrev pub decreases-with_arguments : goal.decreases-with_arguments
decreases-with_arguments l = 4 * l.levels + 2

abbrev pub decreases-tuple : goal.decreases-tuple
decreases-tuple l = 4 * l.levels + 2

abbrev pub decreases-list : goal.decreases-list
decreases-list l = 4 * l.levels + 1

abbrev pub decreases-nested_type : goal.decreases-nested_type
decreases-nested_type l = 4 * l.levels

abbrev pub invariant-list-loop-close : goal.invariant-list-loop-close
invariant-list-loop-close l = tokens_left l.self.tokens ≤ tokens_left l.initial.self.tokens

abbrev pub decreases-list-loop-close : goal.decreases-list-loop-close
decreases-list-loop-close l = tokens_left l.self.tokens
