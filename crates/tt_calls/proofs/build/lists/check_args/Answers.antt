use Rattle.std.proofs.Common.{◌<◌, ◌≤◌, length, refl, arith, subst}
use Rattle.std.specs.Prelude.{List}
use Rattle.std.proofs.lemmas.List.{take_more, take_all}
use Rattle.std.proofs.lemmas.Option.{slice_get_read}
use Rattle.tt_calls.specs.declared.call.ArgCall.{ArgCall}
use Rattle.tt_calls.specs.CallForm.{arg_item, arg_items, items_positions, AreItemsTooDeep}
use Rattle.tt_calls.specs.Told.{told_all}
use Rattle.tt_calls.specs.Build.{IsUsable}
use Rattle.tt_calls.proofs.ResultLaws.{passed}
use Rattle.tt_calls.proofs.PartLaws.{usable-none, usable-more, unusable-among}
use Rattle.tt_calls.proofs.build.lists.check_args.Goals as goal

pub loop-arg-init : goal.loop-arg-init
loop-arg-init c = usable-none arg_item (told_all c.args.cx.now.rows c.args.earlier.now)

pub returns-in_err-check_arg-clause-err : goal.returns-in_err-check_arg-clause-err
returns-in_err-check_arg-clause-err c =
    let inside : c.loop-arg.arg-index < length c.args.args.now = omega arith in
    let here = slice_get_read c.args.args.now (length c.args.args.now) c.loop-arg.arg-index c.arg-item.result refl inside c.arg-item.is in
    passed c.from_residual.result c.in_err-check_arg.field-0.0 _ c.from_residual.ensures.1
    (unusable-among arg_item (told_all c.args.cx.now.rows c.args.earlier.now) c.args.args.now c.loop-arg.arg-index c.arg-item.result c.in_err-check_arg.field-0.0 here
    c.in_err-check_arg.ensures.err)

pub loop-arg-preserved : goal.loop-arg-preserved
loop-arg-preserved c =
    let inside : c.loop-arg.arg-index < length c.args.args.now = omega arith in
    rw (take_more c.args.args.now c.loop-arg.arg-index c.arg-item.result inside, ← c.arg-item.is)
    (usable-more arg_item (told_all c.args.cx.now.rows c.args.earlier.now) _ c.arg-item.result c.loop-arg.invariant c.in_ok-check_arg.ensures.ok)

pub returns-clause-ok : goal.returns-clause-ok
returns-clause-ok c =
    let ended : length c.args.args.now ≤ c.loop-arg.arg-index = omega arith in
    subst (λ (cs : List ArgCall). IsUsable (told_all c.args.cx.now.rows c.args.earlier.now) (items_positions (arg_items cs)) (AreItemsTooDeep (arg_items cs)))
    (take_all c.loop-arg.arg-index c.args.args.now ended) c.loop-arg.invariant
