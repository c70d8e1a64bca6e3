use Rattle.solver.proofs.SearchLaws.{continues_further, continues_itself}
use Rattle.solver.proofs.refuter.refutation_of.Goals as goal

pub returns-in_err-push : goal.returns-in_err-push
returns-in_err-push c = continues_itself c.requires

pub loop-index-init : goal.loop-index-init
loop-index-init c = continues_itself c.requires

pub returns-in_err-refute_goal : goal.returns-in_err-refute_goal
returns-in_err-refute_goal c = continues_further c.loop-index.invariant c.refute_goal.ensures

pub returns-then-not-branch : goal.returns-then-not-branch
returns-then-not-branch c = continues_further c.loop-index.invariant c.refute_goal.ensures

pub loop-index-preserved : goal.loop-index-preserved
loop-index-preserved c = continues_further c.loop-index.invariant c.refute_goal.ensures
