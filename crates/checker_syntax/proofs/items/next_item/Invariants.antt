use Rattle.std.proofs.Common.{◌≤◌}
use Rattle.checker_syntax.specs.Tokens.{tokens_left}
use Rattle.checker_syntax.proofs.items.next_item.Given as goal

abbrev pub invariant-loop-token : goal.invariant-loop-token
invariant-loop-token l = tokens_left l.tokens ≤ tokens_left l.initial.tokens

abbrev pub decreases-loop-token : goal.decreases-loop-token
decreases-loop-token l = tokens_left l.tokens
