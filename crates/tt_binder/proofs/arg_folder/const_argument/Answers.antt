use Rattle.std.proofs.Common.{refl, arith}
use Rattle.std.proofs.lemmas.Result.{err_from_is_err_and}
use Rattle.tt_kinds.specs.Label.{const_sort}
use Rattle.tt_kinds.specs.Kinds.{const_shape}
use Rattle.tt_kinds.specs.declared.generic_arg.GenericArgKind.TheVariants as arg
use Rattle.tt_binder.specs.Instantiation.{for_cause}
use Rattle.tt_binder.specs.ArgumentLaws.{OwnsShifts-still}
use Rattle.tt_binder.specs.Shifted.{param_at}
use Rattle.tt_binder.proofs.HookLaws.{argument_given, argument_part, given_unshifted}
use Rattle.tt_binder.proofs.ShiftedLaws.{shift_owned, shift_part, shift_puts, shift_still}
use Rattle.tt_binder.proofs.arg_folder.const_argument.Goals as goal

pub returns-in_err-constant-clause-result : goal.returns-in_err-constant-clause-result
returns-in_err-constant-clause-result g c =
    let p = err_from_is_err_and c.from_residual.result c.from_residual.ensures.1 in
    λ name. rw (p.1, p.2) (for_cause (c.in_err-constant.ensures.err name))

pub shift-requires : goal.shift-requires
shift-requires g c = argument_part c.args.cx.now.rows (g.S.SliceLike.items c.args.cx.now.rows c.args.args) c.args.index (arg.Const c.in_ok-constant.constant) c.requires.are c.in_ok-constant.ensures.ok

pub returns-in_err-placed-clause-shifted : goal.returns-in_err-placed-clause-shifted
returns-in_err-placed-clause-shifted g c = rw c.in_err-placed.ensures.stays (OwnsShifts-still const_shape _ _ _ const_sort c.args.shifted.now c.shift.ensures.extends.rows c.requires.shifted)

pub returns-in_err-placed-clause-result : goal.returns-in_err-placed-clause-result
returns-in_err-placed-clause-result g c =
    let p = err_from_is_err_and c.from_residual-in_err-placed.result c.from_residual-in_err-placed.ensures.1 in
    let a = argument_given c.args.cx.now.rows (g.S.SliceLike.items c.args.cx.now.rows c.args.args) const_sort c.args.index (arg.Const c.in_ok-constant.constant) c.in_ok-constant.ensures.ok refl in
    λ name. rw (p.1, p.2) (given_unshifted c.shift.new.cx _ c.args.binders_passed const_sort c.args.index name _ _ a c.in_err-placed.ensures.result.0 c.in_err-placed.ensures.result.1)

pub returns-in_err-placed-clause-unshifted : goal.returns-in_err-placed-clause-unshifted
returns-in_err-placed-clause-unshifted g c = λ e. absurd (omega (arith, e, c.in_err-placed.ensures.result.0))

pub returns-clause-shifted : goal.returns-clause-shifted
returns-clause-shifted g c =
    let a = argument_given c.args.cx.now.rows (g.S.SliceLike.items c.args.cx.now.rows c.args.args) const_sort c.args.index (arg.Const c.in_ok-constant.constant) c.in_ok-constant.ensures.ok refl in
    shift_owned const_shape _ _ _ const_sort c.args.index c.args.binders_passed _ _ _ _ c.shift.ensures.extends.rows a c.requires.shifted c.in_ok-placed.ensures.result

pub returns-clause-result : goal.returns-clause-result
returns-clause-result g c =
    let a = argument_given c.args.cx.now.rows (g.S.SliceLike.items c.args.cx.now.rows c.args.args) const_sort c.args.index (arg.Const c.in_ok-constant.constant) c.in_ok-constant.ensures.ok refl in
    let part = argument_part c.args.cx.now.rows (g.S.SliceLike.items c.args.cx.now.rows c.args.args) c.args.index (arg.Const c.in_ok-constant.constant) c.requires.are c.in_ok-constant.ensures.ok in
    λ name. (
      shift_part const_shape _ _ _ const_sort c.args.index c.args.binders_passed _ _ _ _ part c.requires.shifted c.in_ok-placed.ensures.result,
      shift_puts const_shape _ _ _ const_sort c.args.index c.args.binders_passed _ _ _ _ name a c.requires.shifted c.shift.ensures.descents c.shift.ensures.shift_descents c.in_ok-placed.ensures.result,
    )

pub returns-clause-unshifted : goal.returns-clause-unshifted
returns-clause-unshifted g c = λ e. shift_still const_shape _ _ (param_at c.args.index c.args.binders_passed) _ _ _ _ e c.in_ok-placed.ensures.result
