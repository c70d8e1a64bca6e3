use Rattle.std.proofs.Common.{refl}
use Rattle.tt_kinds.specs.Shape.{fill, fill_all}
use Rattle.tt_visit.specs.Visit.{node_seen, one_seen, all_seen, node_broke, first_broke}
use Rattle.tt_visit.proofs.VisitSteps.{flow-weaker}
use Rattle.tt_visit.proofs.visitable.ResultTypeVisitable.visit_with.Goals as goal

pub returns-in-Ok-clause-result : goal.returns-in-Ok-clause-result
unfolding fill fill_all
returns-in-Ok-clause-result g c =
    rw c.in-Ok.is (flow-weaker c.visit_with.result c.visit_with.ensures.result (λ _ h. node_seen refl (one_seen h all_seen)) (λ b h. node_broke refl (first_broke h)))

pub returns-in-Err-clause-result : goal.returns-in-Err-clause-result
unfolding fill fill_all
returns-in-Err-clause-result g c =
    rw c.in-Err.is (flow-weaker c.visit_with-in-Err.result c.visit_with-in-Err.ensures.result (λ _ h. node_seen refl (one_seen h all_seen)) (λ b h. node_broke refl (first_broke h)))
