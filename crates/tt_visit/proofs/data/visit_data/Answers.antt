use Rattle.tt_visit.proofs.DataSteps.{data_seen}
use Rattle.tt_visit.proofs.data.visit_data.Goals as goal

pub returns-clause-result : goal.returns-clause-result
returns-clause-result g c = λ s is. data_seen _ _ _ s is
