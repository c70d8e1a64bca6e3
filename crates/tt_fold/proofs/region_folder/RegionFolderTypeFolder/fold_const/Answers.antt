use Rattle.std.proofs.Common.{refl, inr}
use Rattle.tt_kinds.specs.Kinds.{const_shape}
use Rattle.tt_fold.specs.Steps.{tree_in}
use Rattle.tt_fold.proofs.RegionFolderSteps.{none-flagged}
use Rattle.tt_fold.proofs.region_folder.RegionFolderTypeFolder.fold_const.Goals as goal

pub returns-else-intersects-clause-result : goal.returns-else-intersects-clause-result
returns-else-intersects-clause-result g c =
    let none = none-flagged c.args.self.now.current_index (tree_in c.args.cx.now.rows (const_shape c.args.constant)) c.flags.result.bits c.intersects.result
    c.flags.ensures c.if-intersects.false c.intersects.ensures.1 in
    (tt, ((refl, inr (refl, none)), refl))
