use Rattle.std.proofs.lemmas.Result.{err_from_is_err_and}
use Rattle.tt_fold.proofs.ValueSteps.{binder-has, binder-value, super_binder_fails, super_binder_folds}
use Rattle.tt_fold.proofs.foldable.BinderTypeSuperFoldable.super_fold_core.Goals as goal

pub fold_core-requires-clause-value : goal.fold_core-requires-clause-value
fold_core-requires-clause-value g c =
    rw c.skip_binder.ensures (binder-value g.T.TypeVisitable.shape _ c.args.self c.requires.value)

pub returns-in_err-value : goal.returns-in_err-value
returns-in_err-value g c =
    let p = err_from_is_err_and c.from_residual.result c.from_residual.ensures.1 in
    let d = rw c.skip_binder.ensures at c.in_err-value.ensures.folds in
    rw (p.1, p.2) (super_binder_fails g.T.TypeVisitable.shape d)

pub returns : goal.returns
returns g c =
    let d = rw c.skip_binder.ensures at c.in_ok-value.ensures.folds in
    rw (c.bind_with_vars.ensures, c.bound_vars-bound_vars.ensures) (super_binder_folds g.T.TypeVisitable.shape (binder-has g.T.TypeVisitable.shape _ c.args.self c.requires.value) d)
