use Rattle.std.proofs.Common.{length, refl, sym, subst, add-one}
use Rattle.std.proofs.lemmas.Bool.{eqb-true}
use Rattle.std.proofs.lemmas.Option.{slice_get_read}
use Rattle.tt_kinds.specs.Kinds.{arg_shape}
use Rattle.tt_interner.proofs.OwnedLaws.{get_owned}
use Rattle.solver.proofs.ArgumentLaws.{IsTypeAt, arguments_are, items_owned}
use Rattle.solver.proofs.OutcomeLaws.{HoldsBelow, holds_all, holds_next}
use Rattle.solver.proofs.arguments.are_type_arguments.Goals as goal

pub is_type_argument-requires : goal.is_type_argument-requires
is_type_argument-requires c =
    let cx = c.args.cx.now in
    let items = c.as_slice-items.result.now in
    get_owned arg_shape cx items items c.loop-index.index c.index-items-index.result refl c.loop-index-test.true c.index-items-index.is
    (items_owned cx c.args.args items c.as_slice-items.ensures)

pub loop-index-preserved : goal.loop-index-preserved
loop-index-preserved c =
    let cx = c.args.cx.now in
    let items = c.as_slice-items.result.now in
    let i = c.loop-index.index in
    let x = c.index-items-index.result in
    let there = slice_get_read items (length items) i x refl c.loop-index-test.true c.index-items-index.is in
    let next = holds_next (IsTypeAt cx) items i x c.loop-index.invariant there (c.if-not-is_type_argument.ensures refl) in
    subst (HoldsBelow (IsTypeAt cx) items) (sym (add-one i)) next

pub returns : goal.returns
returns c = λ same.
    let items = c.as_slice-items.result.now in
    arguments_are c.args.cx.now c.args.args items c.as_slice-items.ensures c.args.count
    (holds_all (IsTypeAt c.args.cx.now) items c.loop-index.index c.loop-index-test.false c.loop-index.invariant)
    (eqb-true (length items) c.args.count same)
