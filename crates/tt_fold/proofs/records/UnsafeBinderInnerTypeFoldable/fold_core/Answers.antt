use Rattle.std.proofs.lemmas.Result.{err_from_is_err_and}
use Rattle.tt_kinds.specs.Kinds.{ty_shape}
use Rattle.tt_interner.proofs.Growth.{Extends-trans, IsPart-grows}
use Rattle.tt_fold.proofs.PartLaws.{vars-kept}
use Rattle.tt_fold.proofs.ValueSteps.{binder-has, binder-value, binder_enter_fails, binder_value_fails}
use Rattle.tt_fold.proofs.ValueSteps.{binder_leave_fails, binder_folds}
use Rattle.tt_fold.proofs.RecordSteps.{unsafe_value, unsafe_is_part, unsafe_type, unsafe_value_fails}
use Rattle.tt_fold.proofs.RecordSteps.{unsafe_value_folds, unsafe_fails, unsafe_folds}
use Rattle.tt_fold.proofs.records.UnsafeBinderInnerTypeFoldable.fold_core.Goals as goal

pub core_enter-requires-clause-vars : goal.core_enter-requires-clause-vars
core_enter-requires-clause-vars g c =
    rw c.bound_vars-vars.ensures (binder-has unsafe_value _ c.args.self.0 (unsafe_is_part _ c.args.self c.requires.value))

pub returns-in_err-core_enter-clause-folds : goal.returns-in_err-core_enter-clause-folds
returns-in_err-core_enter-clause-folds g c =
    let p = err_from_is_err_and c.from_residual.result c.from_residual.ensures.1 in
    let h = rw c.bound_vars-vars.ensures at c.in_err-core_enter.ensures in
    rw (p.1, p.2) (unsafe_fails c.args.self (binder_enter_fails unsafe_value h.extends h.owned h.result))

pub fold_core-requires-clause-value : goal.fold_core-requires-clause-value
fold_core-requires-clause-value g c =
    rw c.skip_binder.ensures (IsPart-grows _ _ c.in_ok-core_enter.ensures.extends.rows (ty_shape c.args.self.0.value) (unsafe_type _ c.args.self c.requires.value))

pub returns-in_err-ty-clause-folds : goal.returns-in_err-ty-clause-folds
returns-in_err-ty-clause-folds g c =
    let p = err_from_is_err_and c.from_residual-in_err-ty.result c.from_residual-in_err-ty.ensures.1 in
    let h = rw c.bound_vars-vars.ensures at c.in_ok-core_enter.ensures in
    let d = unsafe_value_fails c.args.self.0.value (rw c.skip_binder.ensures at c.in_err-ty.ensures.folds) in
    rw (p.1, p.2) (unsafe_fails c.args.self (binder_value_fails unsafe_value (binder-value unsafe_value _ c.args.self.0 (unsafe_is_part _ c.args.self c.requires.value)) h.extends h.result d))

pub core_leave-requires-clause-vars : goal.core_leave-requires-clause-vars
core_leave-requires-clause-vars g c =
    rw c.bound_vars-vars.ensures (vars-kept (Extends-trans c.in_ok-core_enter.ensures.extends c.fold_core.ensures.folds.extends).rows _ (binder-has unsafe_value _ c.args.self.0 (unsafe_is_part _ c.args.self c.requires.value)))

pub returns-in_err-core_leave-clause-folds : goal.returns-in_err-core_leave-clause-folds
returns-in_err-core_leave-clause-folds g c =
    let p = err_from_is_err_and c.from_residual-in_err-core_leave.result c.from_residual-in_err-core_leave.ensures.1 in
    let h = rw c.bound_vars-vars.ensures at c.in_ok-core_enter.ensures in
    let d = unsafe_value_folds c.args.self.0.value c.in_ok-ty.ty (rw c.skip_binder.ensures at c.in_ok-ty.ensures.folds) in
    let l = rw c.bound_vars-vars.ensures at c.in_err-core_leave.ensures in
    let part = unsafe_is_part _ c.args.self c.requires.value in
    rw (p.1, p.2) (unsafe_fails c.args.self (binder_leave_fails unsafe_value (binder-has unsafe_value _ c.args.self.0 part) (binder-value unsafe_value _ c.args.self.0 part) h.extends h.result d l.extends l.owned l.result))

pub returns-clause-folds : goal.returns-clause-folds
returns-clause-folds g c =
    let h = rw c.bound_vars-vars.ensures at c.in_ok-core_enter.ensures in
    let d = unsafe_value_folds c.args.self.0.value c.in_ok-ty.ty (rw c.skip_binder.ensures at c.in_ok-ty.ensures.folds) in
    let l = rw c.bound_vars-vars.ensures at c.in_ok-core_leave.ensures in
    let part = unsafe_is_part _ c.args.self c.requires.value in
    unsafe_folds c.args.self _ c.with_ty.ensures.value c.with_ty.ensures.vars
    (binder_folds unsafe_value (binder-has unsafe_value _ c.args.self.0 part) (binder-value unsafe_value _ c.args.self.0 part) h.extends h.result d l.extends l.owned l.result)
