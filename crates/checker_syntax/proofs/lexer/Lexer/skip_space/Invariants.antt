use Rattle.std.proofs.Common.{◌≤◌, length}
use Rattle.checker_syntax.proofs.lexer.Lexer.skip_space.Given as goal

abbrev pub invariant-loop-next : goal.invariant-loop-next
invariant-loop-next l = length l.self.rest.now ≤ length l.initial.self.rest.now

abbrev pub decreases-loop-next : goal.decreases-loop-next
decreases-loop-next l = length l.self.rest.now
