use Rattle.tt_visit.proofs.DataSteps.{index_data}
use Rattle.tt_visit.proofs.data.BoundVarIndexKindTypeVisitable.visit_with.Goals as goal

pub returns-clause-result : goal.returns-clause-result
returns-clause-result g c = c.visit_data.ensures.result _ (index_data c.args.self.now)
