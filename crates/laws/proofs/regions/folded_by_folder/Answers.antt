-- the folder starts with the closure and under no binder, so the law applies to its walk
use Rattle.tt_fold.specs.RegionFolder.{names_in}
use Rattle.laws.proofs.RegionLaws.{folder-places}
use Rattle.laws.proofs.regions.folded_by_folder.Goals as goal

pub fold_with-requires-clause-state : goal.fold_with-requires-clause-state
fold_with-requires-clause-state g c = rw c.new-folder.ensures.closure (c.requires.callable, c.requires.answers)

pub returns : goal.returns
returns g c =
    folder-places _ (names_in c.args.cx.now.rows) c.args.cx.now.counters c.region_folders_place.ensures.placed c.fold_with.result c.args.f c.new-folder.result.f c.new-folder.result.current_index
    _ _ _ _ _ c.new-folder.ensures.closure c.new-folder.ensures.innermost c.fold_with.ensures.folds.outcome
