-- By the indices and the binders.
use Rattle.tt_kinds.proofs.FittingLaws.{tree-fits}
use Rattle.tt_kinds.proofs.fitting.trees_fit.Goals as goal

pub returns : goal.returns
returns c = tree-fits
