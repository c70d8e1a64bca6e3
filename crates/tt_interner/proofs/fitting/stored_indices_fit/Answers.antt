-- By the rows.
use Rattle.tt_interner.proofs.FittingLaws.{value_indices-fit}
use Rattle.tt_interner.proofs.fitting.stored_indices_fit.Goals as goal

pub returns : goal.returns
returns c = value_indices-fit
