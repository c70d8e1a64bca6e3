use Rattle.std.proofs.Common.{◌≡◌, ◌<◌, ◌∷◌, [], length, map, take, refl, subst, arith}
use Rattle.std.specs.Prelude.{List, ℕ}
use Rattle.std.proofs.lemmas.List.{take_more, take_more_set, take_all, map-append}
use Rattle.std.proofs.lemmas.Option.{slice_get_read}
use Rattle.tt_kinds.specs.Shape.{item_shapes}
use Rattle.tt_kinds.specs.Kinds.{existential_shape}
use Rattle.tt_interner.proofs.Growth.{Extends-refl, Extends-trans}
use Rattle.tt_calls.specs.declared.call.ExistentialCall.{ExistentialCall}
use Rattle.tt_calls.specs.CallForm.{existential_call_form, existential_tree, existential_positions}
use Rattle.tt_calls.specs.CallForm.{IsExistentialTooDeep, all_trees, all_positions, AnyIsDeep}
use Rattle.tt_calls.specs.Told.{told_all, HasFullTable}
use Rattle.tt_calls.specs.Means.{number_at, tree_at}
use Rattle.tt_calls.specs.Build.{ArePlaced}
use Rattle.tt_calls.proofs.ToldLaws.{told_all-grows, AreOwnedAnswers-grows}
use Rattle.tt_calls.proofs.PartLaws.{all_placed-passed, all_placed-grow, all-none, all-more, unbuilt-one, get-mapped}
use Rattle.tt_calls.proofs.ResultLaws.{passed}
use Rattle.tt_calls.proofs.RoomLaws.{existential-room}
use Rattle.tt_calls.proofs.build.existentials.fill_existentials.Goals as goal

pub loop-i-init : goal.loop-i-init
loop-i-init c = (Extends-refl c.args.cx.now, all-none existential_tree existential_positions IsExistentialTooDeep existential_shape c.args.cx.now (told_all c.args.cx.now.rows c.args.earlier.now))

pub build_existential-requires : goal.build_existential-requires
build_existential-requires c = AreOwnedAnswers-grows c.args.cx.now.rows c.loop-i.cx.rows c.loop-i.invariant.0.rows c.args.earlier.now c.requires.owned

pub returns-in_err-places-clause-extends : goal.returns-in_err-places-clause-extends
returns-in_err-places-clause-extends c = Extends-trans c.loop-i.invariant.0 c.build_existential.ensures.extends

pub returns-in_err-places-clause-existentials : goal.returns-in_err-places-clause-existentials
returns-in_err-places-clause-existentials c =
    let same = told_all-grows c.args.cx.now.rows c.loop-i.cx.rows c.loop-i.invariant.0.rows c.args.earlier.now c.requires.owned in
    let inside : c.loop-i.i < length c.args.calls.now = omega arith in
    let here = slice_get_read c.args.calls.now (length c.args.calls.now) c.loop-i.i c.index-calls-i.result refl inside c.index-calls-i.is in
    let e = told_all c.args.cx.now.rows c.args.earlier.now in
    let forms = map (existential_call_form (number_at e)) c.args.calls.now in
    all_placed-passed c.build_existential.new.cx e (all_trees (existential_tree (number_at e) (tree_at e)) forms) (all_positions existential_positions forms) (AnyIsDeep IsExistentialTooDeep forms) _
    c.from_residual.result c.in_err-places.field-0.0 c.from_residual.ensures.1
    (unbuilt-one existential_tree existential_positions IsExistentialTooDeep existential_shape (HasFullTable c.build_existential.new.cx) e forms c.loop-i.i (existential_call_form (number_at (told_all c.args.cx.now.rows c.args.earlier.now)) c.index-calls-i.result) c.in_err-places.field-0.0
    (get-mapped (existential_call_form (number_at e)) c.args.calls.now c.loop-i.i c.index-calls-i.result here) (rw (← same) c.in_err-places.ensures.existential.err))

pub returns-in_err-places-clause-room : goal.returns-in_err-places-clause-room
returns-in_err-places-clause-room c =
    let same = told_all-grows c.args.cx.now.rows c.loop-i.cx.rows c.loop-i.invariant.0.rows c.args.earlier.now c.requires.owned in
    let inside : c.loop-i.i < length c.args.calls.now = omega arith in
    let here = slice_get_read c.args.calls.now (length c.args.calls.now) c.loop-i.i c.index-calls-i.result refl inside c.index-calls-i.is in
    let e = told_all c.args.cx.now.rows c.args.earlier.now in
    passed c.from_residual.result c.in_err-places.field-0.0 _ c.from_residual.ensures.1
    (existential-room c.build_existential.new.cx.rows e (map (existential_call_form (number_at e)) c.args.calls.now) c.loop-i.i (existential_call_form (number_at (told_all c.args.cx.now.rows c.args.earlier.now)) c.index-calls-i.result) c.in_err-places.field-0.0
    (get-mapped (existential_call_form (number_at e)) c.args.calls.now c.loop-i.i c.index-calls-i.result here) (rw (← same) c.in_err-places.ensures.room))

pub loop-i-preserved : goal.loop-i-preserved
loop-i-preserved c =
    let same = told_all-grows c.args.cx.now.rows c.loop-i.cx.rows c.loop-i.invariant.0.rows c.args.earlier.now c.requires.owned in
    let inside : c.loop-i.i < length c.args.calls.now = omega arith in
    let room : c.loop-i.i < length c.loop-i.places = omega (arith, c.loop-i.auto.places, c.requires.few, inside) in (
      Extends-trans c.loop-i.invariant.0 c.build_existential.ensures.extends,
      rw (take_more c.args.calls.now c.loop-i.i c.index-calls-i.result inside, ← c.index-calls-i.is, take_more_set c.loop-i.places c.loop-i.i c.in_ok-places.field-0 room, map-append (existential_call_form (number_at (told_all c.args.cx.now.rows c.args.earlier.now))) _ (c.index-calls-i.result ∷ []))
          (all-more existential_tree existential_positions IsExistentialTooDeep existential_shape c.build_existential.new.cx (told_all c.args.cx.now.rows c.args.earlier.now) _ _ (existential_call_form (number_at (told_all c.args.cx.now.rows c.args.earlier.now)) c.index-calls-i.result) c.in_ok-places.field-0
          (all_placed-grow c.loop-i.cx c.build_existential.new.cx c.build_existential.ensures.extends c.loop-i.invariant.1) (rw (← same) c.in_ok-places.ensures.existential.ok)),
    )

pub returns-clause-existentials : goal.returns-clause-existentials
returns-clause-existentials c =
    let e = told_all c.args.cx.now.rows c.args.earlier.now in
    let ended : c.loop-i.i ≡ length c.args.calls.now = omega (arith, c.loop-i-test.false, c.loop-i.auto.i-end) in
    record {
      ok = subst (λ (n : ℕ). ArePlaced c.loop-i.cx e (all_trees (existential_tree (number_at e) (tree_at e)) (map (existential_call_form (number_at e)) c.args.calls.now)) (all_positions existential_positions (map (existential_call_form (number_at e)) c.args.calls.now)) (AnyIsDeep IsExistentialTooDeep (map (existential_call_form (number_at e)) c.args.calls.now)) (item_shapes existential_shape (take n c.loop-i.places))) ended
          (subst (λ (cs : List ExistentialCall). ArePlaced c.loop-i.cx e (all_trees (existential_tree (number_at e) (tree_at e)) (map (existential_call_form (number_at e)) cs)) (all_positions existential_positions (map (existential_call_form (number_at e)) cs)) (AnyIsDeep IsExistentialTooDeep (map (existential_call_form (number_at e)) cs)) (item_shapes existential_shape (take c.loop-i.i c.loop-i.places)))
          (take_all c.loop-i.i c.args.calls.now c.loop-i-test.false) c.loop-i.invariant.1);
      err = tt;
    }
