use Rattle.checker_syntax.specs.Tokens.{tokens_left}
use Rattle.solver_syntax.proofs.items.read_items.Given as goal

abbrev pub decreases-loop-token : goal.decreases-loop-token
decreases-loop-token l = tokens_left l.reader.tokens
