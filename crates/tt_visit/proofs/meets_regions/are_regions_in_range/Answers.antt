use Rattle.tt_visit.proofs.MeetsRegionsLaws.{goes-range, breaks-range}
use Rattle.tt_visit.proofs.meets_regions.are_regions_in_range.Goals as goal

pub returns-in-Break-clause-holds : goal.returns-in-Break-clause-holds
returns-in-Break-clause-holds g c = absurd (breaks-range _ _ _ _ c.in-Break.ensures.result)

pub returns-in-Break-clause-each : goal.returns-in-Break-clause-each
returns-in-Break-clause-each g c = absurd (breaks-range _ _ _ _ c.in-Break.ensures.result)

pub returns-in-Continue-clause-each : goal.returns-in-Continue-clause-each
returns-in-Continue-clause-each g c = goes-range _ _ _ c.in-Continue.ensures.result
