use Rattle.std.proofs.Common.{◌≤◌}
use Rattle.checker_syntax.specs.Tokens.{tokens_left}
use Rattle.solver_syntax.proofs.words.read_params.Given as goal

abbrev pub invariant-params : goal.invariant-params
invariant-params l = tokens_left l.tokens ≤ tokens_left l.initial.tokens

abbrev pub decreases-params : goal.decreases-params
decreases-params l = tokens_left l.tokens
