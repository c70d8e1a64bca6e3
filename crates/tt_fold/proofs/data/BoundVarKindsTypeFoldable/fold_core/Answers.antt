use Rattle.tt_kinds.specs.Handle.{BoundVarKinds}
use Rattle.tt_visit.specs.Data.{data_shape, var_list_data}
use Rattle.tt_fold.proofs.DataSteps.{data_folds}
use Rattle.tt_fold.proofs.data.BoundVarKindsTypeFoldable.fold_core.Goals as goal

pub returns-clause-folds : goal.returns-clause-folds
returns-clause-folds g c = data_folds (λ (vars : BoundVarKinds). data_shape (var_list_data vars)) c.args.self tt c.requires.value c.requires.state
