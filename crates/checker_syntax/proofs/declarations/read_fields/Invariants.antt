use Rattle.checker_syntax.specs.Tokens.{tokens_left}
use Rattle.checker_syntax.proofs.declarations.read_fields.Given as goal

abbrev pub decreases-loop-alloc : goal.decreases-loop-alloc
decreases-loop-alloc l = tokens_left l.reader.tokens
