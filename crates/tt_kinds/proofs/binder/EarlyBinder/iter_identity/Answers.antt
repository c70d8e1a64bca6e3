use Rattle.tt_kinds.proofs.IteratorLaws.{marked_runs}
use Rattle.tt_kinds.proofs.binder.EarlyBinder.iter_identity.Goals as goal

pub returns-clause-runs : goal.returns-clause-runs
returns-clause-runs g c = marked_runs g.T.IntoIter.Iterator.next_gives _
