use Rattle.tt_fold.proofs.RegionFolderSteps.{walk_places, walk_places_some}
use Rattle.tt_fold.proofs.region_folder.region_folders_place.Goals as goal

pub returns-clause-placed : goal.returns-clause-placed
returns-clause-placed g c = walk_places _

pub returns-clause-ended : goal.returns-clause-ended
returns-clause-ended g c = walk_places_some _
