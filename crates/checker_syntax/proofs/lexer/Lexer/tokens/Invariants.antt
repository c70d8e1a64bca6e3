use Rattle.std.proofs.Common.{length}
use Rattle.checker_syntax.proofs.lexer.Lexer.tokens.Given as goal

abbrev pub decreases-loop-first : goal.decreases-loop-first
decreases-loop-first l = length l.self.rest.now
