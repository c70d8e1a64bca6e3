-- the answers are the regions, so the law gives the tree
use Rattle.laws.proofs.RegionLaws.{keeps-tree}
use Rattle.laws.proofs.regions.with_same_regions.Goals as goal

pub returns : goal.returns
returns g c = keeps-tree _ _ (λ p r k a q e. e.met.2.0) c.met_regions_placed_again.ensures c.fold_regions_with.result _ _ _ _ c.fold_regions_with.ensures.placed
