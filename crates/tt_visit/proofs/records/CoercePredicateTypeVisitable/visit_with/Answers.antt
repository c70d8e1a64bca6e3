use Rattle.std.proofs.Common.{refl}
use Rattle.tt_kinds.specs.Shape.{fill, fill_all}
use Rattle.tt_visit.specs.Visit.{node_seen, one_seen, all_seen, node_broke, first_broke, later_broke}
use Rattle.tt_visit.proofs.VisitSteps.{flow-weaker}
use Rattle.tt_visit.proofs.records.CoercePredicateTypeVisitable.visit_with.Goals as goal

pub returns-in-Break-clause-result : goal.returns-in-Break-clause-result
unfolding fill fill_all
returns-in-Break-clause-result g c = node_broke refl (first_broke c.in-Break.ensures.result)

pub returns-in-Continue-clause-result : goal.returns-in-Continue-clause-result
unfolding fill fill_all
returns-in-Continue-clause-result g c =
    let first = c.in-Continue.ensures.result in
    flow-weaker c.visit_with-in-Continue.result c.visit_with-in-Continue.ensures.result
    (λ _ h. node_seen refl (one_seen first (one_seen h all_seen))) (λ b h. node_broke refl (later_broke first (first_broke h)))
