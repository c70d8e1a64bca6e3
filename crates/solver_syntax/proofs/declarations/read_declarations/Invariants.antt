use Rattle.checker_syntax.specs.Tokens.{tokens_left}
use Rattle.solver_syntax.proofs.declarations.read_declarations.Given as goal

abbrev pub decreases-loop-token : goal.decreases-loop-token
decreases-loop-token l = tokens_left l.tokens
