use Rattle.tt_fold.proofs.DataSteps.{data_folds}
use Rattle.tt_fold.proofs.data.AnyTypeFoldable.fold_core.Goals as goal

pub returns-clause-folds : goal.returns-clause-folds
returns-clause-folds g c = data_folds g.T.TypeVisitable.shape c.args.self (g.met.T.FoldsToItself.is_data c.args.self) c.requires.value c.requires.state
