use Rattle.std.proofs.Common.{ap, inl, inr, refl, arith}
use Rattle.std.specs.Prelude.{Result, Ok, Err, OnOk}
use Rattle.std.proofs.lemmas.List.{nil_from_length}
use Rattle.std.proofs.lemmas.Result.{err_from_is_err_and}
use Rattle.tt_kinds.specs.Param.{holds_param}
use Rattle.tt_fold.specs.Steps.{refusals_of, tree_by}
use Rattle.tt_interner.specs.Arguments.{arguments}
use Rattle.tt_fold.proofs.RememberLaws.{does}
use Rattle.tt_binder.specs.Instantiation.{instantiation}
use Rattle.tt_binder.proofs.WalkLaws.{instantiation_laws, knows_first}
use Rattle.tt_fold.proofs.PlaceLaws.{pairs_few, pairs_none}
use Rattle.tt_binder.proofs.PositionLaws.{pairs_counted}
use Rattle.tt_binder.proofs.ClauseLaws.{instance_keeps}
use Rattle.tt_binder.proofs.InstanceLaws.{empty_err, empty_outcome, instance_back, instance_walked, new_state}
use Rattle.tt_binder.proofs.InstanceLaws.{param_refused, reason_empty, reason_refused, walk_refused}
use Rattle.tt_binder.proofs.SharingLaws.{shifts_counted, shifts_none}
use Rattle.tt_binder.proofs.StillLaws.{param_alone, param_ends}
use Rattle.tt_binder.proofs.instantiate.instantiate_value.Goals as goal

pub returns-then-is_empty-clause-result : goal.returns-then-is_empty-clause-result
returns-then-is_empty-clause-result g c =
    let none = ap (arguments c.args.cx.now.rows) (nil_from_length _ (c.is_empty.ensures.empty.0 c.if-is_empty.true)) in
    empty_outcome c.without_arguments.result c.args.value (holds_param (tree_by g.T.TypeVisitable.shape c.args.cx.now.rows c.args.value)) _ _ c.without_arguments.ensures.some c.without_arguments.ensures.none
    (λ held. reason_empty c.args.cx.now (arguments c.args.cx.now.rows (g.S.SliceLike.items c.args.cx.now.rows c.args.args)) (tree_by g.T.TypeVisitable.shape c.args.cx.now.rows c.args.value) none held)
    (λ none_held. (c.requires.value, instance_back (arguments c.args.cx.now.rows (g.S.SliceLike.items c.args.cx.now.rows c.args.args)) (tree_by g.T.TypeVisitable.shape c.args.cx.now.rows c.args.value) (record { no_param = none_held; hides = inl none })))

pub returns-then-is_empty-clause-same : goal.returns-then-is_empty-clause-same
returns-then-is_empty-clause-same g c = λ h. (c.without_arguments.ensures.none h.no_param, refl)

pub returns-then-is_empty-clause-parameter : goal.returns-then-is_empty-clause-parameter
returns-then-is_empty-clause-parameter g c =
    let none = ap (arguments c.args.cx.now.rows) (nil_from_length _ (c.is_empty.ensures.empty.0 c.if-is_empty.true)) in
    λ s i name is. empty_err c.without_arguments.result c.args.value (holds_param (tree_by g.T.TypeVisitable.shape c.args.cx.now.rows c.args.value)) _ c.without_arguments.ensures.some c.without_arguments.ensures.none (λ held. (none, tt))

pub returns-then-is_untouched-clause-result : goal.returns-then-is_untouched-clause-result
returns-then-is_untouched-clause-result g c =
    let left = c.is_untouched.ensures.0 c.if-is_untouched.true in
    (c.requires.value, instance_back (arguments c.args.cx.now.rows (g.S.SliceLike.items c.args.cx.now.rows c.args.args)) (tree_by g.T.TypeVisitable.shape c.args.cx.now.rows c.args.value) (record { no_param = left.0; hides = inr left.1 }))

pub returns-in_err-folded-clause-descents : goal.returns-in_err-folded-clause-descents
returns-in_err-folded-clause-descents g c = (walk_refused c.fold_with.new.cx _ _ _ _ _ (new_state c.args.cx.now.rows g.S.SliceLike.items _ c.args.args _ _ _ _ c.new-folder.ensures.args c.new-folder.ensures.binders_passed c.new-folder.ensures.memory c.new-folder.ensures.types c.new-folder.ensures.consts) c.in_err-folded.ensures.folds.outcome).rises.descents

pub returns-in_err-folded-clause-shift_descents : goal.returns-in_err-folded-clause-shift_descents
returns-in_err-folded-clause-shift_descents g c = (walk_refused c.fold_with.new.cx _ _ _ _ _ (new_state c.args.cx.now.rows g.S.SliceLike.items _ c.args.args _ _ _ _ c.new-folder.ensures.args c.new-folder.ensures.binders_passed c.new-folder.ensures.memory c.new-folder.ensures.types c.new-folder.ensures.consts) c.in_err-folded.ensures.folds.outcome).rises.shift_descents

pub returns-in_err-folded-clause-result : goal.returns-in_err-folded-clause-result
returns-in_err-folded-clause-result g c =
    let p = err_from_is_err_and c.from_residual.result c.from_residual.ensures.1 in
    rw (p.1, p.2) (reason_refused c.fold_with.new.cx (arguments c.args.cx.now.rows (g.S.SliceLike.items c.args.cx.now.rows c.args.args)) _ _ (tree_by g.T.TypeVisitable.shape c.args.cx.now.rows c.args.value) _ (new_state c.args.cx.now.rows g.S.SliceLike.items _ c.args.args _ _ _ _ c.new-folder.ensures.args c.new-folder.ensures.binders_passed c.new-folder.ensures.memory c.new-folder.ensures.types c.new-folder.ensures.consts)
    (instance_keeps c.args.cx.now.rows c.are_rows.ensures.are (g.S.SliceLike.items c.args.cx.now.rows c.args.args) c.is_empty.ensures.are (g.T.TypeVisitable.shape c.args.value) c.requires.value)
    c.in_err-folded.ensures.folds.outcome)

pub returns-in_err-folded-clause-parameter : goal.returns-in_err-folded-clause-parameter
returns-in_err-folded-clause-parameter g c =
    let p = err_from_is_err_and c.from_residual.result c.from_residual.ensures.1 in
    λ s i name is. rw (p.1, p.2) (param_refused (refusals_of c.fold_with.new.cx) (arguments c.args.cx.now.rows (g.S.SliceLike.items c.args.cx.now.rows c.args.args)) c.in_err-folded.ensures.folds.outcome (new_state c.args.cx.now.rows g.S.SliceLike.items _ c.args.args _ _ _ _ c.new-folder.ensures.args c.new-folder.ensures.binders_passed c.new-folder.ensures.memory c.new-folder.ensures.types c.new-folder.ensures.consts) s i name is)

pub returns-clause-descents : goal.returns-clause-descents
returns-clause-descents g c = (does instantiation instantiation_laws c.in_ok-folded.ensures.folds.outcome.1 (knows_first _ _ (new_state c.args.cx.now.rows g.S.SliceLike.items _ c.args.args _ _ _ _ c.new-folder.ensures.args c.new-folder.ensures.binders_passed c.new-folder.ensures.memory c.new-folder.ensures.types c.new-folder.ensures.consts))).stays.rises.descents

pub returns-clause-shift_descents : goal.returns-clause-shift_descents
returns-clause-shift_descents g c = (does instantiation instantiation_laws c.in_ok-folded.ensures.folds.outcome.1 (knows_first _ _ (new_state c.args.cx.now.rows g.S.SliceLike.items _ c.args.args _ _ _ _ c.new-folder.ensures.args c.new-folder.ensures.binders_passed c.new-folder.ensures.memory c.new-folder.ensures.types c.new-folder.ensures.consts))).stays.rises.shift_descents

pub returns-clause-result : goal.returns-clause-result
returns-clause-result g c =
    let o = c.in_ok-folded.ensures.folds.outcome in
    (o.0, instance_walked (arguments c.args.cx.now.rows (g.S.SliceLike.items c.args.cx.now.rows c.args.args)) _ _ (tree_by g.T.TypeVisitable.shape c.args.cx.now.rows c.args.value) _ (new_state c.args.cx.now.rows g.S.SliceLike.items _ c.args.args _ _ _ _ c.new-folder.ensures.args c.new-folder.ensures.binders_passed c.new-folder.ensures.memory c.new-folder.ensures.types c.new-folder.ensures.consts) o.1)

on_ok : {T E P : Type 0} (r : Result T E) → P → OnOk r P
on_ok (Ok x) h = h
on_ok (Err e) h = tt

pub returns-then-is_empty-clause-positions : goal.returns-then-is_empty-clause-positions
returns-then-is_empty-clause-positions g c = on_ok c.without_arguments.result (omega arith)

pub returns-then-is_empty-clause-pairs : goal.returns-then-is_empty-clause-pairs
returns-then-is_empty-clause-pairs g c = on_ok c.without_arguments.result (pairs_none _ _)

pub returns-then-is_untouched-clause-pairs : goal.returns-then-is_untouched-clause-pairs
returns-then-is_untouched-clause-pairs g c = pairs_none _ _

pub returns-clause-pairs : goal.returns-clause-pairs
returns-clause-pairs g c = pairs_counted _ _ _ _ _ (new_state c.args.cx.now.rows g.S.SliceLike.items _ c.args.args _ _ _ _ c.new-folder.ensures.args c.new-folder.ensures.binders_passed c.new-folder.ensures.memory c.new-folder.ensures.types c.new-folder.ensures.consts) c.in_ok-folded.ensures.folds.outcome.1

pub returns-clause-positions : goal.returns-clause-positions
returns-clause-positions g c =
    pairs_few _ _ _ (pairs_counted _ _ _ _ _ (new_state c.args.cx.now.rows g.S.SliceLike.items _ c.args.args _ _ _ _ c.new-folder.ensures.args c.new-folder.ensures.binders_passed c.new-folder.ensures.memory c.new-folder.ensures.types c.new-folder.ensures.consts) c.in_ok-folded.ensures.folds.outcome.1)

pub returns-in_err-folded-clause-parameter_still : goal.returns-in_err-folded-clause-parameter_still
returns-in_err-folded-clause-parameter_still g c = λ s i name is.
    c.in_err-folded.ensures.still (param_alone c.args.cx.now.rows (g.T.TypeVisitable.shape c.args.value) c.requires.value s i name is)
    (param_ends _ _ (tree_by g.T.TypeVisitable.shape c.args.cx.now.rows c.args.value) c.new-folder.ensures.binders_passed s i name is)

pub returns-clause-parameter_still : goal.returns-clause-parameter_still
returns-clause-parameter_still g c = λ s i name is.
    c.in_ok-folded.ensures.still (param_alone c.args.cx.now.rows (g.T.TypeVisitable.shape c.args.value) c.requires.value s i name is)
    (param_ends _ _ (tree_by g.T.TypeVisitable.shape c.args.cx.now.rows c.args.value) c.new-folder.ensures.binders_passed s i name is)

pub returns-then-is_empty-clause-shifts : goal.returns-then-is_empty-clause-shifts
returns-then-is_empty-clause-shifts g c = on_ok c.without_arguments.result (shifts_none _ _ _)

pub returns-then-is_untouched-clause-shifts : goal.returns-then-is_untouched-clause-shifts
returns-then-is_untouched-clause-shifts g c = shifts_none _ _ _

pub returns-clause-shifts : goal.returns-clause-shifts
returns-clause-shifts g c = shifts_counted _ _ _ _ _ (new_state c.args.cx.now.rows g.S.SliceLike.items _ c.args.args _ _ _ _ c.new-folder.ensures.args c.new-folder.ensures.binders_passed c.new-folder.ensures.memory c.new-folder.ensures.types c.new-folder.ensures.consts) c.in_ok-folded.ensures.folds.outcome.1
