use Rattle.std.proofs.Common.{refl}
use Rattle.tt_visit.proofs.HasTypeFlagsLaws.{goes-misses, breaks-meets}
use Rattle.tt_visit.proofs.Found.{none-found, one-found}
use Rattle.tt_visit.proofs.queries.TypeVisitableExt.has_type_flags.Goals as goal

pub returns-in-Break : goal.returns-in-Break
returns-in-Break g c = let meets = breaks-meets _ _ _ _ c.in-Break.ensures.result in one-found _ (rw c.new-visitor.ensures at meets)

pub returns-in-Continue : goal.returns-in-Continue
returns-in-Continue g c = none-found _ _ refl (λ meets. meets (rw c.new-visitor.ensures at (goes-misses _ _ _ c.in-Continue.ensures.result).1))
