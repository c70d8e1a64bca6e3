-- By what the tree reaches.
use Rattle.tt_kinds.proofs.FittingLaws.{moved-fits}
use Rattle.tt_kinds.proofs.fitting.moved_trees_fit.Goals as goal

pub returns : goal.returns
returns c = moved-fits
