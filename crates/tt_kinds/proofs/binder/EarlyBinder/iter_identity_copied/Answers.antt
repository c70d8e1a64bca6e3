use Rattle.tt_kinds.proofs.IteratorLaws.{copied_runs}
use Rattle.tt_kinds.proofs.binder.EarlyBinder.iter_identity_copied.Goals as goal

pub returns-clause-runs : goal.returns-clause-runs
returns-clause-runs g c = copied_runs g.T.IntoIter.Iterator.next_gives _ _
