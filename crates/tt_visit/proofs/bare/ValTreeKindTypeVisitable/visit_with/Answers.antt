use Rattle.std.proofs.Common.{refl}
use Rattle.tt_kinds.specs.Shape.{fill, fill_all}
use Rattle.tt_visit.specs.Visit.{node_seen, one_seen, all_seen, node_broke, first_broke}
use Rattle.tt_visit.proofs.VisitSteps.{flow-weaker}
use Rattle.tt_visit.proofs.bare.ValTreeKindTypeVisitable.visit_with.Goals as goal

pub returns-in-Leaf-clause-result : goal.returns-in-Leaf-clause-result
unfolding fill fill_all
returns-in-Leaf-clause-result g c = rw c.in-Leaf.is (node_seen refl all_seen)

pub returns-in-Branch-clause-result : goal.returns-in-Branch-clause-result
unfolding fill fill_all
returns-in-Branch-clause-result g c =
    rw c.in-Branch.is (flow-weaker c.visit_with.result c.visit_with.ensures.result (λ _ h. node_seen refl (one_seen h all_seen)) (λ b h. node_broke refl (first_broke h)))
