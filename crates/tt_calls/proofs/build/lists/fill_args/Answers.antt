use Rattle.std.proofs.Common.{◌<◌, length, refl, arith}
use Rattle.std.proofs.lemmas.List.{take_more, take_more_set}
use Rattle.std.proofs.lemmas.Option.{slice_get_read}
use Rattle.tt_kinds.specs.Kinds.{arg_shape}
use Rattle.tt_kinds.specs.declared.table.Table.TheVariants.{ArgLists}
use Rattle.tt_interner.proofs.Growth.{Extends-refl, Extends-trans}
use Rattle.tt_calls.specs.CallForm.{arg_item, arg_items}
use Rattle.tt_calls.specs.Told.{told_all, HasFullTable}
use Rattle.tt_calls.proofs.ToldLaws.{told_all-grows, AreOwnedAnswers-grows}
use Rattle.tt_calls.proofs.PartLaws.{items-none, items-more, all_placed-grow, puts-passed, unbuilt-among}
use Rattle.tt_calls.proofs.ResultLaws.{passed}
use Rattle.tt_calls.proofs.RoomLaws.{item-room}
use Rattle.tt_calls.proofs.build.lists.fill_args.Goals as goal

pub loop-i-init : goal.loop-i-init
loop-i-init c = (Extends-refl c.args.cx.now, items-none arg_item arg_shape c.args.cx.now (told_all c.args.cx.now.rows c.args.earlier.now))

pub build_arg-requires : goal.build_arg-requires
build_arg-requires c = AreOwnedAnswers-grows c.args.cx.now.rows c.loop-i.cx.rows c.loop-i.invariant.0.rows c.args.earlier.now c.requires.owned

pub returns-in_err-places-clause-extends : goal.returns-in_err-places-clause-extends
returns-in_err-places-clause-extends c = Extends-trans c.loop-i.invariant.0 c.build_arg.ensures.extends

pub returns-in_err-places-clause-args : goal.returns-in_err-places-clause-args
returns-in_err-places-clause-args c =
    let same = told_all-grows c.args.cx.now.rows c.loop-i.cx.rows c.loop-i.invariant.0.rows c.args.earlier.now c.requires.owned in
    let inside : c.loop-i.i < length c.args.args.now = omega arith in
    let here = slice_get_read c.args.args.now (length c.args.args.now) c.loop-i.i c.index-args-i.result refl inside c.index-args-i.is in
    let e = told_all c.args.cx.now.rows c.args.earlier.now in
    puts-passed c.build_arg.new.cx e (arg_items c.args.args.now) arg_shape _ c.from_residual.result c.in_err-places.field-0.0 c.from_residual.ensures.1
    (unbuilt-among arg_item arg_shape (HasFullTable c.build_arg.new.cx) e c.args.args.now c.loop-i.i c.index-args-i.result c.in_err-places.field-0.0 here
    (rw (← same) c.in_err-places.ensures.arg.err))

pub returns-in_err-places-clause-room : goal.returns-in_err-places-clause-room
returns-in_err-places-clause-room c =
    let same = told_all-grows c.args.cx.now.rows c.loop-i.cx.rows c.loop-i.invariant.0.rows c.args.earlier.now c.requires.owned in
    let inside : c.loop-i.i < length c.args.args.now = omega arith in
    let here = slice_get_read c.args.args.now (length c.args.args.now) c.loop-i.i c.index-args-i.result refl inside c.index-args-i.is in
    passed c.from_residual.result c.in_err-places.field-0.0 _ c.from_residual.ensures.1
    (item-room arg_item c.build_arg.new.cx.rows (told_all c.args.cx.now.rows c.args.earlier.now) ArgLists c.args.args.now c.loop-i.i c.index-args-i.result c.in_err-places.field-0.0 here
    (rw (← same) c.in_err-places.ensures.room))

pub loop-i-preserved : goal.loop-i-preserved
loop-i-preserved c =
    let same = told_all-grows c.args.cx.now.rows c.loop-i.cx.rows c.loop-i.invariant.0.rows c.args.earlier.now c.requires.owned in
    let inside : c.loop-i.i < length c.args.args.now = omega arith in
    let room : c.loop-i.i < length c.loop-i.places = omega (arith, c.loop-i.auto.places, c.requires.few, inside) in (
      Extends-trans c.loop-i.invariant.0 c.build_arg.ensures.extends,
      rw (take_more c.args.args.now c.loop-i.i c.index-args-i.result inside, ← c.index-args-i.is, take_more_set c.loop-i.places c.loop-i.i c.in_ok-places.field-0 room)
          (items-more arg_item arg_shape c.build_arg.new.cx (told_all c.args.cx.now.rows c.args.earlier.now) _ _ c.index-args-i.result c.in_ok-places.field-0
          (all_placed-grow c.loop-i.cx c.build_arg.new.cx c.build_arg.ensures.extends c.loop-i.invariant.1) (rw (← same) c.in_ok-places.ensures.arg.ok.item)),
    )
