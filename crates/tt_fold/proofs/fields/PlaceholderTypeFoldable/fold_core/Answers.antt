use Rattle.std.proofs.Common.{refl}
use Rattle.std.proofs.lemmas.Result.{err_from_is_err_and}
use Rattle.tt_kinds.specs.Values.{tuple_shape}
use Rattle.tt_visit.specs.Data.{data_shape, number_data, placeholder_shape}
use Rattle.tt_fold.proofs.DataSteps.{alike_fails, alike_folds}
use Rattle.tt_fold.proofs.fields.PlaceholderTypeFoldable.fold_core.Goals as goal

pub returns-in_err-folded-clause-folds : goal.returns-in_err-folded-clause-folds
returns-in_err-folded-clause-folds g c =
    let p = err_from_is_err_and c.from_residual.result c.from_residual.ensures.1 in
    rw (p.1, p.2) (alike_fails (placeholder_shape g.T.TypeVisitable.shape) (tuple_shape (λ i. data_shape (number_data 4 i)) g.T.TypeVisitable.shape) c.args.self (c.args.self.universe, c.args.self.bound) refl c.in_err-folded.ensures.folds)

pub returns-clause-folds : goal.returns-clause-folds
returns-clause-folds g c =
    alike_folds (placeholder_shape g.T.TypeVisitable.shape) (tuple_shape (λ i. data_shape (number_data 4 i)) g.T.TypeVisitable.shape) c.args.self _ (c.args.self.universe, c.args.self.bound) c.in_ok-folded.folded refl refl c.in_ok-folded.ensures.folds
