use Rattle.checker_syntax.specs.Tokens.{tokens_left}
use Rattle.checker_syntax.proofs.items.read_heads.Given as goal

abbrev pub decreases-loop-kind : goal.decreases-loop-kind
decreases-loop-kind l = tokens_left l.tokens
