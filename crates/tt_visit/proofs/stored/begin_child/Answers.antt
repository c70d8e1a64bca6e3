use Rattle.std.proofs.Common.{arith}
use Rattle.tt_kinds.specs.Shape.{fill, fill_all}
use Rattle.tt_visit.specs.Visit.{region_seen, all_seen, one_seen, region_broke, first_broke}
use Rattle.tt_visit.proofs.VisitSteps.{root-region}
use Rattle.tt_visit.proofs.BeginSteps.{begun-weaker}
use Rattle.tt_visit.proofs.stored.begin_child.Goals as goal

pub visit_region-requires-clause-region : goal.visit_region-requires-clause-region
visit_region-requires-clause-region g c = let parts = rw c.in-Region.is at c.requires.child in parts.0

pub begin_stored-requires-clause-handle : goal.begin_stored-requires-clause-handle
begin_stored-requires-clause-handle g c = let parts = rw c.in-Stored.is at c.requires.child in parts.0

pub returns-in-Absent-clause-begun : goal.returns-in-Absent-clause-begun
unfolding fill fill_all
returns-in-Absent-clause-begun g c = rw c.in-Absent.is all_seen

pub returns-in-Break-clause-begun : goal.returns-in-Break-clause-begun
unfolding fill fill_all
returns-in-Break-clause-begun g c = rw c.in-Region.is (first_broke (region_broke (root-region _ _) c.in-Break.ensures.result))

pub returns-in-Continue-clause-begun : goal.returns-in-Continue-clause-begun
unfolding fill fill_all
returns-in-Continue-clause-begun g c = rw c.in-Region.is (one_seen (region_seen (root-region _ _) c.in-Continue.ensures.result) all_seen)

pub returns-in-Stored-clause-begun : goal.returns-in-Stored-clause-begun
unfolding fill fill_all
returns-in-Stored-clause-begun g c =
    rw c.in-Stored.is (begun-weaker _ _ _ c.begin_stored.result c.begin_stored.ensures.begun (λ _ h. one_seen h all_seen) (λ b _ h. first_broke h) (omega arith) (omega arith))
