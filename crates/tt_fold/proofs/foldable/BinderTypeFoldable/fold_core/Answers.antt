use Rattle.std.proofs.lemmas.Result.{err_from_is_err_and}
use Rattle.tt_interner.proofs.Growth.{Extends-trans, IsPart-grows}
use Rattle.tt_fold.proofs.PartLaws.{vars-kept}
use Rattle.tt_fold.proofs.ValueSteps.{binder-has, binder-value, binder_enter_fails, binder_value_fails}
use Rattle.tt_fold.proofs.ValueSteps.{binder_leave_fails, binder_folds}
use Rattle.tt_fold.proofs.foldable.BinderTypeFoldable.fold_core.Goals as goal

pub core_enter-requires-clause-vars : goal.core_enter-requires-clause-vars
core_enter-requires-clause-vars g c =
    rw c.bound_vars-vars.ensures (binder-has g.T.TypeVisitable.shape _ c.args.self c.requires.value)

pub returns-in_err-core_enter-clause-folds : goal.returns-in_err-core_enter-clause-folds
returns-in_err-core_enter-clause-folds g c =
    let p = err_from_is_err_and c.from_residual.result c.from_residual.ensures.1 in
    let h = rw c.bound_vars-vars.ensures at c.in_err-core_enter.ensures in
    rw (p.1, p.2) (binder_enter_fails g.T.TypeVisitable.shape h.extends h.owned h.result)

pub fold_core-requires-clause-value : goal.fold_core-requires-clause-value
fold_core-requires-clause-value g c =
    rw c.skip_binder.ensures (IsPart-grows _ _ c.in_ok-core_enter.ensures.extends.rows _ (binder-value g.T.TypeVisitable.shape _ c.args.self c.requires.value))

pub returns-in_err-value-clause-folds : goal.returns-in_err-value-clause-folds
returns-in_err-value-clause-folds g c =
    let p = err_from_is_err_and c.from_residual-in_err-value.result c.from_residual-in_err-value.ensures.1 in
    let h = rw c.bound_vars-vars.ensures at c.in_ok-core_enter.ensures in
    let d = rw c.skip_binder.ensures at c.in_err-value.ensures.folds in
    rw (p.1, p.2) (binder_value_fails g.T.TypeVisitable.shape (binder-value g.T.TypeVisitable.shape _ c.args.self c.requires.value) h.extends h.result d)

pub core_leave-requires-clause-vars : goal.core_leave-requires-clause-vars
core_leave-requires-clause-vars g c =
    rw c.bound_vars-vars.ensures (vars-kept (Extends-trans c.in_ok-core_enter.ensures.extends c.fold_core.ensures.folds.extends).rows _ (binder-has g.T.TypeVisitable.shape _ c.args.self c.requires.value))

pub returns-in_err-core_leave-clause-folds : goal.returns-in_err-core_leave-clause-folds
returns-in_err-core_leave-clause-folds g c =
    let p = err_from_is_err_and c.from_residual-in_err-core_leave.result c.from_residual-in_err-core_leave.ensures.1 in
    let h = rw c.bound_vars-vars.ensures at c.in_ok-core_enter.ensures in
    let d = rw c.skip_binder.ensures at c.in_ok-value.ensures.folds in
    let l = rw c.bound_vars-vars.ensures at c.in_err-core_leave.ensures in
    rw (p.1, p.2) (binder_leave_fails g.T.TypeVisitable.shape (binder-has g.T.TypeVisitable.shape _ c.args.self c.requires.value) (binder-value g.T.TypeVisitable.shape _ c.args.self c.requires.value) h.extends h.result d l.extends l.owned l.result)

pub returns-clause-folds : goal.returns-clause-folds
returns-clause-folds g c =
    let h = rw c.bound_vars-vars.ensures at c.in_ok-core_enter.ensures in
    let d = rw c.skip_binder.ensures at c.in_ok-value.ensures.folds in
    let l = rw c.bound_vars-vars.ensures at c.in_ok-core_leave.ensures in
    rw (c.bind_with_vars.ensures, c.bound_vars-vars.ensures) (binder_folds g.T.TypeVisitable.shape (binder-has g.T.TypeVisitable.shape _ c.args.self c.requires.value) (binder-value g.T.TypeVisitable.shape _ c.args.self c.requires.value) h.extends h.result d l.extends l.owned l.result)
