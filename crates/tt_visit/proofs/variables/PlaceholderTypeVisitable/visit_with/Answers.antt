-- the universe is data, and then the variable is visited
use Rattle.std.proofs.Common.{refl}
use Rattle.tt_kinds.specs.Shape.{fill, fill_all}
use Rattle.tt_visit.specs.Visit.{node_seen, one_seen, all_seen, node_broke, first_broke, later_broke}
use Rattle.tt_visit.proofs.VisitSteps.{flow-weaker}
use Rattle.tt_visit.proofs.variables.PlaceholderTypeVisitable.visit_with.Goals as goal

pub returns-clause-result : goal.returns-clause-result
unfolding fill fill_all
returns-clause-result g c =
    flow-weaker c.visit_with.result c.visit_with.ensures.result
    (λ _ h. node_seen refl (one_seen (node_seen refl all_seen) (one_seen h all_seen))) (λ b h. node_broke refl (later_broke (node_seen refl all_seen) (first_broke h)))
