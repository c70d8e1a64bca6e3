use Rattle.std.proofs.Common.{◌≤◌, length}
use Rattle.checker_syntax.proofs.lexer.Lexer.skip_line.Given as goal

abbrev pub invariant-loop-character : goal.invariant-loop-character
invariant-loop-character l = length l.self.rest.now ≤ length l.initial.self.rest.now

abbrev pub decreases-loop-character : goal.decreases-loop-character
decreases-loop-character l = length l.self.rest.now
