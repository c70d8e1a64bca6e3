use Rattle.tt_kinds.proofs.IteratorLaws.{early_runs}
use Rattle.tt_kinds.proofs.binder.EarlyBinder.transpose_iter.Goals as goal

pub returns-clause-runs : goal.returns-clause-runs
returns-clause-runs g c = early_runs g.T.IntoIter.Iterator.next_gives _
