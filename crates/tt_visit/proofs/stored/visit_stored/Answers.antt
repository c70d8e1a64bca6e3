use Rattle.tt_visit.proofs.BeginSteps.{has-frame, finished}
use Rattle.tt_visit.proofs.stored.visit_stored.Goals as goal

pub finish-requires-clause-frame : goal.finish-requires-clause-frame
finish-requires-clause-frame g c = has-frame _ _ _ _ _ _ _ c.begin_stored-begun.result c.begin_stored-begun.ensures.begun

pub returns-clause-result : goal.returns-clause-result
returns-clause-result g c = finished _ _ _ _ _ _ _ _ c.begin_stored-begun.result c.finish.result c.begin_stored-begun.ensures.begun c.finish.ensures.result
