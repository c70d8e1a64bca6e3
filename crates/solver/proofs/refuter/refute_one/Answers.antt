use Rattle.solver.proofs.SearchLaws.{continues_further, continues_itself}
use Rattle.solver.proofs.refuter.refute_one.Goals as goal

pub returns-then-is_some : goal.returns-then-is_some
returns-then-is_some c = continues_itself c.requires

pub returns-in_err-push : goal.returns-in_err-push
returns-in_err-push c = continues_itself c.requires

pub returns-then-conditions-eq1 : goal.returns-then-conditions-eq1
returns-then-conditions-eq1 c = continues_itself c.requires

pub loop-index-init : goal.loop-index-init
loop-index-init c = continues_itself c.requires

pub returns-in_err-solve_goal : goal.returns-in_err-solve_goal
returns-in_err-solve_goal c = continues_further c.loop-index.invariant c.solve_goal.ensures

pub returns-in_err-push-2 : goal.returns-in_err-push-2
returns-in_err-push-2 c = continues_further c.loop-index.invariant c.solve_goal.ensures

pub returns-then-eq : goal.returns-then-eq
returns-then-eq c = continues_further c.loop-index.invariant c.solve_goal.ensures

pub loop-index-preserved : goal.loop-index-preserved
loop-index-preserved c = continues_further c.loop-index.invariant c.solve_goal.ensures
