use Rattle.std.proofs.Common.{refl}
use Rattle.std.proofs.lemmas.Result.{err_from_is_err_and}
use Rattle.tt_kinds.specs.Label.{region_sort}
use Rattle.tt_kinds.specs.declared.generic_arg.GenericArgKind.TheVariants as arg
use Rattle.tt_interner.specs.Rows.{size, meaning}
use Rattle.tt_binder.specs.Instantiation.{for_cause}
use Rattle.tt_binder.proofs.HookLaws.{argument_given, argument_part, given_done, given_refused, region_past}
use Rattle.tt_binder.proofs.arg_folder.region_argument.Goals as goal

pub returns-in_err-argument : goal.returns-in_err-argument
returns-in_err-argument g c =
    let p = err_from_is_err_and c.from_residual.result c.from_residual.ensures.1 in
    λ name. rw (p.1, p.2) (for_cause (c.in_err-argument.ensures.err name))

pub returns-in_err-shifted : goal.returns-in_err-shifted
returns-in_err-shifted g c =
    let p = err_from_is_err_and c.from_residual-in_err-shifted.result c.from_residual-in_err-shifted.ensures.1 in
    let a = argument_given c.args.cx.now.rows (g.S.SliceLike.items c.args.cx.now.rows c.args.args) region_sort c.args.index (arg.Lifetime c.in_ok-argument.argument) c.in_ok-argument.ensures.ok refl in
    let h = c.in_err-shifted.ensures.err (meaning c.args.cx.now.rows) in
    let below = region_past (meaning c.args.cx.now.rows) c.in_ok-argument.argument c.args.binders_passed c.in_range-in_range.ensures.shallow h.1 in
    λ name. rw (p.1, p.2) (given_refused _ _ c.args.binders_passed region_sort c.args.index name _ _ a below h.0 h.1)

pub returns : goal.returns
returns g c =
    let a = argument_given c.args.cx.now.rows (g.S.SliceLike.items c.args.cx.now.rows c.args.args) region_sort c.args.index (arg.Lifetime c.in_ok-argument.argument) c.in_ok-argument.ensures.ok refl in
    let within = argument_part c.args.cx.now.rows (g.S.SliceLike.items c.args.cx.now.rows c.args.args) c.args.index (arg.Lifetime c.in_ok-argument.argument) c.requires.are c.in_ok-argument.ensures.ok in
    λ name. (
      c.in_ok-shifted.ensures.in_range (size c.args.cx.now.rows) within,
      given_done _ c.args.binders_passed region_sort c.args.index name _ _ a (c.in_ok-shifted.ensures.ok (meaning c.args.cx.now.rows)).tree,
    )
