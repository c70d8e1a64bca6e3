use Rattle.tt_visit.specs.Visit.{region_seen, region_broke}
use Rattle.tt_visit.proofs.VisitSteps.{flow-weaker, root-region}
use Rattle.tt_visit.proofs.handles.RegionTypeVisitable.visit_with.Goals as goal

pub returns-clause-result : goal.returns-clause-result
returns-clause-result g c =
    flow-weaker c.visit_region.result c.visit_region.ensures.result (λ _ h. region_seen (root-region _ _) h) (λ b h. region_broke (root-region _ _) h)
