-- By the rows and the binders.
use Rattle.tt_interner.proofs.FittingLaws.{value-fits}
use Rattle.tt_interner.proofs.fitting.stored_values_fit.Goals as goal

pub returns : goal.returns
returns c = value-fits
