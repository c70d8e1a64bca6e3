use Rattle.std.proofs.Common.{refl}
use Rattle.tt_kinds.specs.Shape.{fill, fill_all}
use Rattle.tt_visit.specs.Visit.{node_seen, one_seen, all_seen, node_broke, first_broke}
use Rattle.tt_visit.proofs.VisitSteps.{flow-weaker}
use Rattle.tt_visit.proofs.visitable.OptionTypeVisitable.visit_with.Goals as goal

pub returns-in-None-clause-result : goal.returns-in-None-clause-result
unfolding fill fill_all
returns-in-None-clause-result g c = rw c.in-None.is (node_seen refl all_seen)

pub returns-in-Some-clause-result : goal.returns-in-Some-clause-result
unfolding fill fill_all
returns-in-Some-clause-result g c =
    rw c.in-Some.is (flow-weaker c.visit_with.result c.visit_with.ensures.result (λ _ h. node_seen refl (one_seen h all_seen)) (λ b h. node_broke refl (first_broke h)))
