-- The regions met in a tree, placed again, give the tree.
use Rattle.tt_kinds.proofs.MetLaws.{placed-standing}
use Rattle.tt_kinds.proofs.laws.met_regions_placed_again.Goals as goal

pub returns : goal.returns
returns c = placed-standing
