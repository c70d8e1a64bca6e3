use Rattle.std.proofs.Common.{◌<◌, ◌≤◌, ◌∷◌, [], length, map, take, refl, arith, subst}
use Rattle.std.specs.Prelude.{List}
use Rattle.std.proofs.lemmas.List.{take_more, take_all, map-append}
use Rattle.std.proofs.lemmas.Option.{slice_get_read}
use Rattle.tt_kinds.specs.Shape.{item_shapes}
use Rattle.tt_kinds.specs.Kinds.{existential_shape, existentials_shape}
use Rattle.tt_kinds.specs.declared.table.Table.TheVariants.{ExistentialLists}
use Rattle.tt_interner.specs.Rows.{existentials_row}
use Rattle.tt_interner.proofs.Growth.{Extends-refl, Extends-trans}
use Rattle.tt_calls.specs.declared.call.ExistentialCall.{ExistentialCall}
use Rattle.tt_calls.specs.CallForm.{existential_call_form, existential_tree, existentials_tree, existential_positions}
use Rattle.tt_calls.specs.CallForm.{IsExistentialTooDeep, all_trees, all_positions, AnyIsDeep}
use Rattle.tt_calls.specs.Told.{told_all, HasFullTable}
use Rattle.tt_calls.specs.Means.{number_at, tree_at}
use Rattle.tt_calls.specs.Build.{ArePlaced}
use Rattle.tt_calls.proofs.ToldLaws.{told_all-grows, AreOwnedAnswers-grows}
use Rattle.tt_calls.proofs.PartLaws.{placed-passed, all_placed-grow, all-none, all-more, unbuilt-one, get-mapped}
use Rattle.tt_calls.proofs.BuildLaws.{list-placed}
use Rattle.tt_calls.proofs.ResultLaws.{passed}
use Rattle.tt_calls.proofs.RoomLaws.{existentials-room, long-existentials-room}
use Rattle.tt_calls.proofs.build.existentials.build_existentials.Goals as goal

pub loop-call-init : goal.loop-call-init
loop-call-init c =
    (Extends-refl c.args.cx.now, rw (c.in_ok-built.ensures.items) (all-none existential_tree existential_positions IsExistentialTooDeep existential_shape c.args.cx.now (told_all c.args.cx.now.rows c.args.earlier.now)))

pub build_existential-requires : goal.build_existential-requires
build_existential-requires c = AreOwnedAnswers-grows c.args.cx.now.rows c.loop-call.cx.rows c.loop-call.invariant.0.rows c.args.earlier.now c.requires

pub returns-in_err-existential-clause-extends : goal.returns-in_err-existential-clause-extends
returns-in_err-existential-clause-extends c = Extends-trans c.loop-call.invariant.0 c.build_existential.ensures.extends

pub returns-in_err-existential-clause-list : goal.returns-in_err-existential-clause-list
returns-in_err-existential-clause-list c =
    let same = told_all-grows c.args.cx.now.rows c.loop-call.cx.rows c.loop-call.invariant.0.rows c.args.earlier.now c.requires in
    let inside : c.loop-call.call-index < length c.args.calls.now = omega arith in
    let here = slice_get_read c.args.calls.now (length c.args.calls.now) c.loop-call.call-index c.call-item.result refl inside c.call-item.is in
    let e = told_all c.args.cx.now.rows c.args.earlier.now in
    let forms = map (existential_call_form (number_at e)) c.args.calls.now in
    placed-passed c.build_existential.new.cx e (existentials_tree (number_at e) (tree_at e) forms) (all_positions existential_positions forms) (AnyIsDeep IsExistentialTooDeep forms) existentials_shape
    c.from_residual-in_err-existential.result c.in_err-existential.field-0.0 c.from_residual-in_err-existential.ensures.1
    (unbuilt-one existential_tree existential_positions IsExistentialTooDeep existential_shape (HasFullTable c.build_existential.new.cx) e forms c.loop-call.call-index (existential_call_form (number_at (told_all c.args.cx.now.rows c.args.earlier.now)) c.call-item.result) c.in_err-existential.field-0.0
    (get-mapped (existential_call_form (number_at e)) c.args.calls.now c.loop-call.call-index c.call-item.result here) (rw (← same) c.in_err-existential.ensures.existential.err))

pub returns-in_err-push-clause-extends : goal.returns-in_err-push-clause-extends
returns-in_err-push-clause-extends c = Extends-trans c.loop-call.invariant.0 c.build_existential.ensures.extends

pub loop-call-preserved : goal.loop-call-preserved
loop-call-preserved c =
    let same = told_all-grows c.args.cx.now.rows c.loop-call.cx.rows c.loop-call.invariant.0.rows c.args.earlier.now c.requires in
    let inside : c.loop-call.call-index < length c.args.calls.now = omega arith in (
      Extends-trans c.loop-call.invariant.0 c.build_existential.ensures.extends,
      rw (take_more c.args.calls.now c.loop-call.call-index c.call-item.result inside, ← c.call-item.is, c.in_ok-push.ensures.items, map-append (existential_call_form (number_at (told_all c.args.cx.now.rows c.args.earlier.now))) _ (c.call-item.result ∷ []))
          (all-more existential_tree existential_positions IsExistentialTooDeep existential_shape c.build_existential.new.cx (told_all c.args.cx.now.rows c.args.earlier.now) _ _ (existential_call_form (number_at (told_all c.args.cx.now.rows c.args.earlier.now)) c.call-item.result) c.in_ok-existential.existential
          (all_placed-grow c.loop-call.cx c.build_existential.new.cx c.build_existential.ensures.extends c.loop-call.invariant.1) (rw (← same) c.in_ok-existential.ensures.existential.ok)),
    )

pub mk_existential_list-requires-2 : goal.mk_existential_list-requires-2
mk_existential_list-requires-2 c = rw (c.as_slice.ensures.value) c.loop-call.invariant.1.parts

pub returns-clause-extends : goal.returns-clause-extends
returns-clause-extends c = Extends-trans c.loop-call.invariant.0 (record { rows = c.mk_existential_list-2.ensures.grows; limit = c.mk_existential_list-2.ensures.limit })

pub returns-clause-list : goal.returns-clause-list
returns-clause-list c =
    let ended : length c.args.calls.now ≤ c.loop-call.call-index = omega arith in
    let e = told_all c.args.cx.now.rows c.args.earlier.now in
    let forms = map (existential_call_form (number_at e)) c.args.calls.now in
    let placed = subst (λ (cs : List ExistentialCall). ArePlaced c.loop-call.cx e (all_trees (existential_tree (number_at e) (tree_at e)) (map (existential_call_form (number_at e)) cs)) (all_positions existential_positions (map (existential_call_form (number_at e)) cs))
    (AnyIsDeep IsExistentialTooDeep (map (existential_call_form (number_at e)) cs)) (item_shapes existential_shape c.loop-call.built.items)) (take_all c.loop-call.call-index c.args.calls.now ended) c.loop-call.invariant.1 in
    list-placed (λ l. l.number) c.loop-call.cx c.mk_existential_list-2.new.self e ExistentialLists (all_trees (existential_tree (number_at e) (tree_at e)) forms) (all_positions existential_positions forms) (AnyIsDeep IsExistentialTooDeep forms)
    (item_shapes existential_shape c.loop-call.built.items) (existentials_row c.loop-call.built.items) c.mk_existential_list-2.result placed refl refl (rw (← c.as_slice.ensures.value) c.mk_existential_list-2.ensures)

pub mk_existential_list-requires : goal.mk_existential_list-requires
mk_existential_list-requires c = c.in_ok-fill_existentials.ensures.existentials.ok.parts

pub returns-in_err-fill_existentials-clause-list : goal.returns-in_err-fill_existentials-clause-list
returns-in_err-fill_existentials-clause-list c =
    let e = told_all c.args.cx.now.rows c.args.earlier.now in
    let forms = map (existential_call_form (number_at e)) c.args.calls.now in
    placed-passed c.fill_existentials.new.cx e (existentials_tree (number_at e) (tree_at e) forms) (all_positions existential_positions forms) (AnyIsDeep IsExistentialTooDeep forms) existentials_shape
    c.from_residual.result c.in_err-fill_existentials.field-0.0 c.from_residual.ensures.1 c.in_err-fill_existentials.ensures.existentials.err

pub returns-in_err-fill_existentials-clause-room : goal.returns-in_err-fill_existentials-clause-room
returns-in_err-fill_existentials-clause-room c =
    passed c.from_residual.result c.in_err-fill_existentials.field-0.0 _ c.from_residual.ensures.1 c.in_err-fill_existentials.ensures.room

pub returns-then-calls-le-MOST_IN_PLACE-clause-extends : goal.returns-then-calls-le-MOST_IN_PLACE-clause-extends
returns-then-calls-le-MOST_IN_PLACE-clause-extends c = Extends-trans c.fill_existentials.ensures.extends (record { rows = c.mk_existential_list.ensures.grows; limit = c.mk_existential_list.ensures.limit })

pub returns-then-calls-le-MOST_IN_PLACE-clause-list : goal.returns-then-calls-le-MOST_IN_PLACE-clause-list
returns-then-calls-le-MOST_IN_PLACE-clause-list c =
    let e = told_all c.args.cx.now.rows c.args.earlier.now in
    let forms = map (existential_call_form (number_at e)) c.args.calls.now in
    let few = take (length c.args.calls.now) c.fill_existentials.new.places in
    list-placed (λ l. l.number) c.fill_existentials.new.cx c.mk_existential_list.new.self e ExistentialLists (all_trees (existential_tree (number_at e) (tree_at e)) forms) (all_positions existential_positions forms) (AnyIsDeep IsExistentialTooDeep forms)
    (item_shapes existential_shape few) (existentials_row few) c.mk_existential_list.result c.in_ok-fill_existentials.ensures.existentials.ok refl refl c.mk_existential_list.ensures

pub returns-then-calls-le-MOST_IN_PLACE-clause-room : goal.returns-then-calls-le-MOST_IN_PLACE-clause-room
returns-then-calls-le-MOST_IN_PLACE-clause-room c =
    let e = told_all c.args.cx.now.rows c.args.earlier.now in
    let forms = map (existential_call_form (number_at e)) c.args.calls.now in
    let few = take (length c.args.calls.now) c.fill_existentials.new.places in
    existentials-room (λ l. l.number) c.fill_existentials.new.cx c.mk_existential_list.new.self e forms (all_positions existential_positions forms) (AnyIsDeep IsExistentialTooDeep forms) few
    c.mk_existential_list.result c.in_ok-fill_existentials.ensures.existentials.ok c.mk_existential_list.ensures

pub returns-in_err-built-clause-room : goal.returns-in_err-built-clause-room
returns-in_err-built-clause-room c =
    let e = told_all c.args.cx.now.rows c.args.earlier.now in
    long-existentials-room (existential_call_form (number_at e)) c.args.cx.now.rows e c.args.calls.now c.from_residual-in_err-built.result (omega arith)

pub returns-in_err-existential-clause-room : goal.returns-in_err-existential-clause-room
returns-in_err-existential-clause-room c =
    let e = told_all c.args.cx.now.rows c.args.earlier.now in
    long-existentials-room (existential_call_form (number_at e)) c.build_existential.new.cx.rows e c.args.calls.now c.from_residual-in_err-existential.result (omega arith)

pub returns-in_err-push-clause-room : goal.returns-in_err-push-clause-room
returns-in_err-push-clause-room c =
    let e = told_all c.args.cx.now.rows c.args.earlier.now in
    long-existentials-room (existential_call_form (number_at e)) c.build_existential.new.cx.rows e c.args.calls.now c.from_residual-in_err-push.result (omega arith)

pub returns-clause-room : goal.returns-clause-room
returns-clause-room c =
    let e = told_all c.args.cx.now.rows c.args.earlier.now in
    long-existentials-room (existential_call_form (number_at e)) c.mk_existential_list-2.new.self.rows e c.args.calls.now c.mk_existential_list-2.result (omega arith)
