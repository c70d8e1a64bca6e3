use Rattle.std.proofs.Common.{◌≤◌}
use Rattle.checker_syntax.specs.Tokens.{tokens_left}
use Rattle.solver_syntax.proofs.items.read_bounds.Given as goal

abbrev pub invariant-bounds : goal.invariant-bounds
invariant-bounds l = tokens_left l.reader.tokens ≤ tokens_left l.initial.reader.tokens

abbrev pub decreases-bounds : goal.decreases-bounds
decreases-bounds l = tokens_left l.reader.tokens
