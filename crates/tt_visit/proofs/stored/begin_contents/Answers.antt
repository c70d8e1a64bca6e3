use Rattle.tt_visit.proofs.BeginSteps.{begins-bare}
use Rattle.tt_visit.proofs.stored.begin_contents.Goals as goal

pub returns-in-None-clause-begun : goal.returns-in-None-clause-begun
returns-in-None-clause-begun g c = rw c.in-None.is (begins-bare _ _ _ _ c.without_binder.result c.without_binder.ensures c.requires.parts)

pub returns-in-Some-clause-begun : goal.returns-in-Some-clause-begun
returns-in-Some-clause-begun g c = rw c.in-Some.is c.begin_under.ensures.begun
