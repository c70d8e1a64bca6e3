use Rattle.tt_fold.proofs.ValueSteps.{region_folds}
use Rattle.tt_fold.proofs.handles.RegionTypeFoldable.fold_core.Goals as goal

pub returns-clause-folds : goal.returns-clause-folds
returns-clause-folds g c =
    region_folds _ c.args.self c.core_region.result c.core_region.ensures.extends c.core_region.ensures.owned c.core_region.ensures.result
