use Rattle.std.proofs.Common.{refl}
use Rattle.tt_kinds.specs.Shape.{fill, fill_all}
use Rattle.tt_visit.specs.Visit.{node_seen, one_seen, all_seen, node_broke, first_broke}
use Rattle.tt_visit.proofs.VisitSteps.{flow-weaker}
use Rattle.tt_visit.proofs.handles.ClauseTypeVisitable.visit_with.Goals as goal

pub returns-clause-result : goal.returns-clause-result
unfolding fill fill_all
returns-clause-result g c =
    let inner = rw c.any.ensures at c.visit_stored.ensures.result in
    flow-weaker c.visit_stored.result inner (λ _ h. node_seen refl (one_seen h all_seen)) (λ b h. node_broke refl (first_broke h))
