use Rattle.std.proofs.Common.{refl}
use Rattle.tt_kinds.specs.Shape.{fill, fill_all}
use Rattle.tt_visit.specs.Visit.{node_seen, one_seen, all_seen, node_broke, first_broke}
use Rattle.tt_visit.proofs.VisitSteps.{flow-weaker}
use Rattle.tt_visit.proofs.records.TraitRefTypeVisitable.visit_with.Goals as goal

pub returns-clause-result : goal.returns-clause-result
unfolding fill fill_all
returns-clause-result g c =
    flow-weaker c.visit_with.result c.visit_with.ensures.result (λ _ h. node_seen refl (one_seen h all_seen)) (λ b h. node_broke refl (first_broke h))
