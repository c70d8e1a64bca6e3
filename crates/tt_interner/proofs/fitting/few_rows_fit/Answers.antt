-- By the number of rows that have a binder.
use Rattle.tt_interner.proofs.FittingLaws.{few_rows-fit}
use Rattle.tt_interner.proofs.fitting.few_rows_fit.Goals as goal

pub returns : goal.returns
returns c = few_rows-fit
