use Rattle.tt_fold.proofs.BareLaws.{token_folds}
use Rattle.tt_fold.proofs.bare.ErrorGuaranteedTypeFoldable.fold_core.Goals as goal

pub returns-clause-folds : goal.returns-clause-folds
returns-clause-folds g c = token_folds c.args.self c.requires.state
