use Rattle.std.proofs.Common.{take}
use Rattle.type_terms.proofs.RunLaws.{Ran}
use Rattle.type_terms.proofs.run.runner.run_calls.Given as goal

abbrev pub invariant-loop-call : goal.invariant-loop-call
invariant-loop-call l = Ran l.fn.cx l.cx (take l.call-index l.calls) l.answers.items
