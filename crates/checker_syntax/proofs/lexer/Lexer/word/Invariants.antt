use Rattle.std.proofs.Common.{◌≤◌, length}
use Rattle.checker_syntax.proofs.lexer.Lexer.word.Given as goal

abbrev pub invariant-loop-self : goal.invariant-loop-self
invariant-loop-self l = length l.self.rest.now ≤ length l.initial.self.rest.now

abbrev pub decreases-loop-self : goal.decreases-loop-self
decreases-loop-self l = length l.self.rest.now
