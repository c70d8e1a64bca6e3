use Rattle.tt_visit.specs.Data.{name_shape}
use Rattle.tt_fold.proofs.DataSteps.{data_folds}
use Rattle.tt_fold.proofs.data.SymbolTypeFoldable.fold_core.Goals as goal

pub returns-clause-folds : goal.returns-clause-folds
returns-clause-folds g c = data_folds name_shape c.args.self tt c.requires.value c.requires.state
