use Rattle.std.proofs.Common.{ap, ◌++◌}
use Rattle.std.specs.Map.{keys_of}
use Rattle.std.proofs.lemmas.Result.{err_from_is_err_and}
use Rattle.tt_kinds.specs.Label.{type_sort, const_sort}
use Rattle.tt_kinds.specs.Kinds.{ty_shape, const_shape}
use Rattle.tt_fold.specs.Steps.{tree_in}
use Rattle.tt_interner.specs.Arguments.{arguments}
use Rattle.tt_binder.specs.ArgumentLaws.{OwnsShifts-still, owned-kept, state-still}
use Rattle.tt_binder.proofs.ShiftedLaws.{kept_apart, puts_before}
use Rattle.tt_fold.specs.Remember.{remembered}
use Rattle.tt_fold.specs.Memory.{memos}
use Rattle.tt_binder.proofs.RowArguments.{type_is, type_kept}
use Rattle.tt_binder.proofs.FlagLaws.{meets_param, misses_param}
use Rattle.tt_binder.proofs.HookLaws.{leaf_at, left_step, param_by_index, inner_type, given_step, taken_step}
use Rattle.tt_binder.proofs.StillLaws.{open_unpassed, not_open}
use Rattle.tt_binder.proofs.arg_folder.ArgFolderTypeFolder.fold_ty.Goals as goal

pub returns-then-not-intersects-clause-result : goal.returns-then-not-intersects-clause-result
returns-then-not-intersects-clause-result g c =
    let tree = tree_in c.args.cx.now.rows (ty_shape c.args.ty) in
    let none = misses_param tree c.flags.result.bits c.intersects.result c.flags.ensures c.if-not-intersects.true c.intersects.ensures.1 in
    (tt, left_step _ tree (type_kept tree (type_is c.args.cx.now.rows c.args.ty c.requires.ty)) none)

pub returns-in_err-new-in-Some-clause-result : goal.returns-in_err-new-in-Some-clause-result
returns-in_err-new-in-Some-clause-result g c =
    let p = err_from_is_err_and c.from_residual.result c.from_residual.ensures.1 in
    let found = param_by_index type_sort c.in-Some.index (tree_in c.args.cx.now.rows (ty_shape c.args.ty)) c.in-Some.ensures in
    rw (p.1, p.2) (c.type_argument.ensures.descents, (c.type_argument.ensures.shift_descents, λ z. ap (λ x. x.counters.shift_descents) (c.type_argument.ensures.unshifted z)), leaf_at _ _ _ _ _ _ found.1 (c.in_err-new-in-Some.ensures.result found.0))

pub returns-in_ok-new-in-Some-clause-result : goal.returns-in_ok-new-in-Some-clause-result
returns-in_ok-new-in-Some-clause-result g c =
    let old = c.args.cx.now.rows in
    let new = c.type_argument.new.cx.rows in
    let args = c.args.self.now.args in
    let grows = c.type_argument.ensures.extends.rows in
    let owned = c.requires.owned in
    let same = g.met.S.SliceLike.still_items old new args grows owned.0 in
    let found = param_by_index type_sort c.in-Some.index (tree_in old (ty_shape c.args.ty)) c.in-Some.ensures in
    let h = c.in_ok-new-in-Some.ensures.result found.0 in
    let apart = kept_apart const_shape old (arguments old (g.S.SliceLike.items old args)) type_sort const_sort c.in-Some.index found.0 c.args.self.now.binders_passed c.args.self.now.consts (λ e. cc) owned.5 h.1 in (
      h.0,
      given_step _ _ _ _ _ _ _ found.1
          (state-still old new (g.S.SliceLike.items old args) (g.S.SliceLike.items new args) c.args.self.now.binders_passed (keys_of c.type_argument.new.shifted ++ keys_of c.args.self.now.consts) c.args.self.now.memory grows same owned.1 owned.3)
          (puts_before _ _ _ _ (keys_of c.args.self.now.consts) apart h.1),
    )

pub returns-in_ok-new-in-Some-clause-owned : goal.returns-in_ok-new-in-Some-clause-owned
returns-in_ok-new-in-Some-clause-owned g c =
    let self = c.args.self.now in
    let grows = c.type_argument.ensures.extends.rows in
    owned-kept g.met.S.SliceLike.still_owned g.met.S.SliceLike.still_items _ _ self.args self.memory self.types self.consts c.type_argument.new.shifted self.consts grows c.requires.owned
    c.type_argument.ensures.shifted (OwnsShifts-still const_shape _ _ _ const_sort self.consts grows c.requires.owned.5)

pub returns-in_err-new-in-Some-clause-owned : goal.returns-in_err-new-in-Some-clause-owned
returns-in_err-new-in-Some-clause-owned g c =
    let self = c.args.self.now in
    let grows = c.type_argument.ensures.extends.rows in
    owned-kept g.met.S.SliceLike.still_owned g.met.S.SliceLike.still_items _ _ self.args self.memory self.types self.consts c.type_argument.new.shifted self.consts grows c.requires.owned
    c.type_argument.ensures.shifted (OwnsShifts-still const_shape _ _ _ const_sort self.consts grows c.requires.owned.5)

pub returns-in_err-new-in-Some-clause-still : goal.returns-in_err-new-in-Some-clause-still
returns-in_err-new-in-Some-clause-still g c = λ h. c.type_argument.ensures.unshifted (open_unpassed _ (tree_in c.args.cx.now.rows (ty_shape c.args.ty)) h)

pub returns-in_ok-new-in-Some-clause-still : goal.returns-in_ok-new-in-Some-clause-still
returns-in_ok-new-in-Some-clause-still g c = λ h. c.type_argument.ensures.unshifted (open_unpassed _ (tree_in c.args.cx.now.rows (ty_shape c.args.ty)) h)

pub returns-in-Some-look_up-clause-result : goal.returns-in-Some-look_up-clause-result
returns-in-Some-look_up-clause-result g c = (c.in-Some-look_up.ensures.trees.0, remembered c.in-Some-look_up.ensures.trees.1)

pub returns-in-None-look_up-clause-result : goal.returns-in-None-look_up-clause-result
returns-in-None-look_up-clause-result g c =
    let old = c.args.cx.now.rows in
    let tree = tree_in old (ty_shape c.args.ty) in
    let held = meets_param tree c.flags.result.bits c.flags.ensures (c.intersects.ensures.0 c.if-not-intersects.false) in
    let inner = inner_type tree (type_is old c.args.ty c.requires.ty) held c.in-None.ensures in
    let state = ap (λ r. record {
      rule = arguments r (g.S.SliceLike.items r c.args.self.now.args);
      under = c.args.self.now.binders_passed;
      kept = keys_of c.args.self.now.types ++ keys_of c.args.self.now.consts;
      memory = memos r c.args.self.now.memory;
    }) c.count_descent.ensures.rows in
    (tt, taken_step _ _ _ inner c.in-None-look_up.ensures.trees state c.count_descent.ensures.descents c.count_descent.ensures.shift_descents)

pub returns-in-None-look_up-clause-still : goal.returns-in-None-look_up-clause-still
returns-in-None-look_up-clause-still g c =
    λ h. absurd (not_open _ (tree_in c.args.cx.now.rows (ty_shape c.args.ty)) (type_is c.args.cx.now.rows c.args.ty c.requires.ty) c.in-None.ensures h)
