use Rattle.std.proofs.Common.{◌≤◌}
use Rattle.checker_syntax.specs.Tokens.{tokens_left}
use Rattle.checker_syntax.proofs.items.read_params.Given as goal

abbrev pub invariant-loop-alloc : goal.invariant-loop-alloc
invariant-loop-alloc l = tokens_left l.tokens ≤ tokens_left l.initial.tokens

abbrev pub decreases-loop-alloc : goal.decreases-loop-alloc
decreases-loop-alloc l = tokens_left l.tokens
