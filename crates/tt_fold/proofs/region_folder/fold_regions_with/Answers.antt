use Rattle.std.proofs.Common.{refl}
use Rattle.tt_kinds.specs.Met.{met}
use Rattle.tt_fold.specs.Steps.{tree_by}
use Rattle.tt_fold.specs.RegionFolder.{names_in}
use Rattle.tt_fold.proofs.RegionFolderSteps.{not-some, nothing_placed}
use Rattle.tt_fold.proofs.region_folder.fold_regions_with.Goals as goal

pub returns-then-not-meets_regions-clause-placed : goal.returns-then-not-meets_regions-clause-placed
returns-then-not-meets_regions-clause-placed g c =
    let tree = tree_by g.T.TypeVisitable.shape c.args.cx.now.rows c.args.value in
    nothing_placed _ (names_in c.args.cx.now.rows) c.args.f.now tree (not-some (met 0 tree) c.if-not-meets_regions.ensures.1)

pub returns-clause-same : goal.returns-clause-same
returns-clause-same g c = λ none. absurd (c.if-not-meets_regions.ensures.0 refl none)
