use Rattle.std.proofs.Common.{length}
use Rattle.tt_calls.proofs.script.line.arguments.Given as goal

abbrev pub decreases-loop-word : goal.decreases-loop-word
decreases-loop-word l = length l.words.rest.now
