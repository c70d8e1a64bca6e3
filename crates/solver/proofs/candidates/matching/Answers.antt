use Rattle.solver.proofs.SearchLaws.{continues_further, continues_itself}
use Rattle.solver.proofs.candidates.matching.Goals as goal

pub returns-in_err-candidates : goal.returns-in_err-candidates
returns-in_err-candidates c = continues_itself c.requires.table

pub loop-index-init : goal.loop-index-init
loop-index-init c = continues_itself c.requires.table

pub returns-in_err-fit_of : goal.returns-in_err-fit_of
returns-in_err-fit_of c = continues_further c.loop-index.invariant c.fit_of.ensures

pub returns-in_err-push-in-Some-Exact : goal.returns-in_err-push-in-Some-Exact
returns-in_err-push-in-Some-Exact c = continues_further c.loop-index.invariant c.fit_of.ensures

pub returns-in_err-push-in-Some-Binding : goal.returns-in_err-push-in-Some-Binding
returns-in_err-push-in-Some-Binding c = continues_further c.loop-index.invariant c.fit_of.ensures

pub loop-index-preserved : goal.loop-index-preserved
loop-index-preserved c = continues_further c.loop-index.invariant c.fit_of.ensures
