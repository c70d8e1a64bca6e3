use Rattle.std.proofs.Common.{◌≤◌}
use Rattle.checker_syntax.specs.Tokens.{tokens_left}
use Rattle.solver_syntax.proofs.items.read_group.Given as goal

abbrev pub invariant-goals : goal.invariant-goals
invariant-goals l = tokens_left l.reader.tokens ≤ tokens_left l.initial.reader.tokens

abbrev pub decreases-goals : goal.decreases-goals
decreases-goals l = tokens_left l.reader.tokens
