use Rattle.std.proofs.Common.{◌<◌, length, refl, ap, arith}
use Rattle.std.proofs.lemmas.List.{take_more}
use Rattle.std.proofs.lemmas.Option.{slice_get_read}
use Rattle.tt_kinds.specs.Kinds.{arg_shape}
use Rattle.tt_interner.proofs.Growth.{Extends-refl, Extends-trans}
use Rattle.tt_calls.specs.Told.{told_all, HasFullTable}
use Rattle.tt_calls.specs.CallForm.{arg_item}
use Rattle.tt_calls.proofs.ToldLaws.{told_all-grows, AreOwnedAnswers-grows}
use Rattle.tt_calls.proofs.PartLaws.{unbuilt-among}
use Rattle.tt_calls.proofs.ArgumentLaws.{arguments-passed, arguments-nothing, arguments-more}
use Rattle.tt_calls.proofs.build.lists.build_args.Goals as goal

pub loop-arg-init : goal.loop-arg-init
loop-arg-init c = (Extends-refl c.args.cx.now, rw (c.in_ok-built.ensures.items) (arguments-nothing c.args.cx.now (told_all c.args.cx.now.rows c.args.earlier.now)))

pub build_arg-requires : goal.build_arg-requires
build_arg-requires c = AreOwnedAnswers-grows c.args.cx.now.rows c.loop-arg.cx.rows c.loop-arg.invariant.0.rows c.args.earlier.now c.requires

pub returns-in_err-arg-clause-extends : goal.returns-in_err-arg-clause-extends
returns-in_err-arg-clause-extends c = Extends-trans c.loop-arg.invariant.0 c.build_arg.ensures.extends

pub returns-in_err-arg-clause-args : goal.returns-in_err-arg-clause-args
returns-in_err-arg-clause-args c =
    let same = told_all-grows c.args.cx.now.rows c.loop-arg.cx.rows c.loop-arg.invariant.0.rows c.args.earlier.now c.requires in
    let inside : c.loop-arg.arg-index < length c.args.args.now = omega arith in
    let here = slice_get_read c.args.args.now (length c.args.args.now) c.loop-arg.arg-index c.arg-item.result refl inside c.arg-item.is in
    let e = told_all c.args.cx.now.rows c.args.earlier.now in
    arguments-passed c.build_arg.new.cx e c.args.args.now c.from_residual-in_err-arg.result c.in_err-arg.field-0.0 c.from_residual-in_err-arg.ensures.1
    (unbuilt-among arg_item arg_shape (HasFullTable c.build_arg.new.cx) e c.args.args.now c.loop-arg.arg-index c.arg-item.result c.in_err-arg.field-0.0 here
    (rw (← same) c.in_err-arg.ensures.arg.err))

pub returns-in_err-push-clause-extends : goal.returns-in_err-push-clause-extends
returns-in_err-push-clause-extends c = Extends-trans c.loop-arg.invariant.0 c.build_arg.ensures.extends

pub loop-arg-preserved : goal.loop-arg-preserved
loop-arg-preserved c =
    let same = told_all-grows c.args.cx.now.rows c.loop-arg.cx.rows c.loop-arg.invariant.0.rows c.args.earlier.now c.requires in
    let inside : c.loop-arg.arg-index < length c.args.args.now = omega arith in (
      Extends-trans c.loop-arg.invariant.0 c.build_arg.ensures.extends,
      rw (take_more c.args.args.now c.loop-arg.arg-index c.arg-item.result inside, ← c.arg-item.is, c.in_ok-push.ensures.items)
          (arguments-more c.loop-arg.cx c.build_arg.new.cx (told_all c.args.cx.now.rows c.args.earlier.now) _ _ c.arg-item.result c.in_ok-arg.arg
          c.build_arg.ensures.extends c.loop-arg.invariant.1 (rw (← same) c.in_ok-arg.ensures.arg.ok)),
    )

pub returns-in_err-arg-clause-none : goal.returns-in_err-arg-clause-none
returns-in_err-arg-clause-none c = λ none.
    let inside : c.loop-arg.arg-index < length c.args.args.now = omega arith in
    let count = ap length none in absurd (omega arith)

pub returns-in_err-push-clause-none : goal.returns-in_err-push-clause-none
returns-in_err-push-clause-none c = λ none.
    let inside : c.loop-arg.arg-index < length c.args.args.now = omega arith in
    let count = ap length none in absurd (omega arith)

pub returns-in_err-built-clause-none : goal.returns-in_err-built-clause-none
returns-in_err-built-clause-none c = λ none. let made = c.in_err-built.ensures.succeeds (ap length none) in absurd (cc)
