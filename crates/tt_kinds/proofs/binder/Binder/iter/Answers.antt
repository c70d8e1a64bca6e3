use Rattle.tt_kinds.proofs.IteratorLaws.{bound_runs}
use Rattle.tt_kinds.proofs.binder.Binder.iter.Goals as goal

pub returns-clause-runs : goal.returns-clause-runs
returns-clause-runs g c = rw c.bound_vars-bound_vars.ensures (bound_runs g.T.IntoIter.Iterator.next_gives _)
