use Rattle.solver.proofs.SearchLaws.{continues_further, continues_itself}
use Rattle.solver.proofs.goals.make_variables.Goals as goal

pub loop-init : goal.loop-init
loop-init c = continues_itself c.requires

pub returns-in_err-new_variable : goal.returns-in_err-new_variable
returns-in_err-new_variable c = continues_further c.loop.invariant c.new_variable.ensures.continues

pub loop-preserved : goal.loop-preserved
loop-preserved c = continues_further c.loop.invariant c.new_variable.ensures.continues
