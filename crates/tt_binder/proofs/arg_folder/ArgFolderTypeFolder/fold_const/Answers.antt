use Rattle.std.proofs.Common.{ap, ◌++◌}
use Rattle.std.specs.Map.{keys_of}
use Rattle.std.proofs.lemmas.Result.{err_from_is_err_and}
use Rattle.tt_kinds.specs.Label.{type_sort, const_sort}
use Rattle.tt_kinds.specs.Kinds.{ty_shape, const_shape}
use Rattle.tt_fold.specs.Steps.{tree_in}
use Rattle.tt_interner.specs.Arguments.{arguments}
use Rattle.tt_binder.specs.ArgumentLaws.{OwnsShifts-still, owned-kept, state-still}
use Rattle.tt_binder.proofs.ShiftedLaws.{kept_apart, puts_after}
use Rattle.tt_binder.proofs.RowArguments.{const_is, inner_const}
use Rattle.tt_binder.proofs.HookLaws.{const_step, leaf_at, param_by_index, given_step}
use Rattle.tt_binder.proofs.StillLaws.{open_unpassed}
use Rattle.tt_binder.proofs.arg_folder.ArgFolderTypeFolder.fold_const.Goals as goal

pub returns-in_err-new-in-Some-clause-result : goal.returns-in_err-new-in-Some-clause-result
returns-in_err-new-in-Some-clause-result g c =
    let p = err_from_is_err_and c.from_residual.result c.from_residual.ensures.1 in
    let found = param_by_index const_sort c.in-Some.index (tree_in c.args.cx.now.rows (const_shape c.args.constant)) c.in-Some.ensures in
    rw (p.1, p.2) (c.const_argument.ensures.descents, (c.const_argument.ensures.shift_descents, λ z. ap (λ x. x.counters.shift_descents) (c.const_argument.ensures.unshifted z)), leaf_at _ _ _ _ _ _ found.1 (c.in_err-new-in-Some.ensures.result found.0))

pub returns-in_ok-new-in-Some-clause-result : goal.returns-in_ok-new-in-Some-clause-result
returns-in_ok-new-in-Some-clause-result g c =
    let old = c.args.cx.now.rows in
    let new = c.const_argument.new.cx.rows in
    let args = c.args.self.now.args in
    let grows = c.const_argument.ensures.extends.rows in
    let owned = c.requires.owned in
    let same = g.met.S.SliceLike.still_items old new args grows owned.0 in
    let found = param_by_index const_sort c.in-Some.index (tree_in old (const_shape c.args.constant)) c.in-Some.ensures in
    let h = c.in_ok-new-in-Some.ensures.result found.0 in
    let apart = kept_apart ty_shape old (arguments old (g.S.SliceLike.items old args)) const_sort type_sort c.in-Some.index found.0 c.args.self.now.binders_passed c.args.self.now.types (λ e. cc) owned.4 h.1 in (
      h.0,
      given_step _ _ _ _ _ _ _ found.1
          (state-still old new (g.S.SliceLike.items old args) (g.S.SliceLike.items new args) c.args.self.now.binders_passed (keys_of c.args.self.now.types ++ keys_of c.const_argument.new.shifted) c.args.self.now.memory grows same owned.1 owned.3)
          (puts_after _ _ _ _ (keys_of c.args.self.now.types) apart h.1),
    )

pub returns-in-None-clause-result : goal.returns-in-None-clause-result
returns-in-None-clause-result g c =
    let old = c.args.cx.now.rows in
    (tt, const_step _ (tree_in old (const_shape c.args.constant)) (inner_const (tree_in old (const_shape c.args.constant)) (const_is old c.args.constant c.requires.constant) c.in-None.ensures))

pub returns-in_ok-new-in-Some-clause-owned : goal.returns-in_ok-new-in-Some-clause-owned
returns-in_ok-new-in-Some-clause-owned g c =
    let self = c.args.self.now in
    let grows = c.const_argument.ensures.extends.rows in
    owned-kept g.met.S.SliceLike.still_owned g.met.S.SliceLike.still_items _ _ self.args self.memory self.types self.consts self.types c.const_argument.new.shifted grows c.requires.owned
    (OwnsShifts-still ty_shape _ _ _ type_sort self.types grows c.requires.owned.4) c.const_argument.ensures.shifted

pub returns-in_err-new-in-Some-clause-owned : goal.returns-in_err-new-in-Some-clause-owned
returns-in_err-new-in-Some-clause-owned g c =
    let self = c.args.self.now in
    let grows = c.const_argument.ensures.extends.rows in
    owned-kept g.met.S.SliceLike.still_owned g.met.S.SliceLike.still_items _ _ self.args self.memory self.types self.consts self.types c.const_argument.new.shifted grows c.requires.owned
    (OwnsShifts-still ty_shape _ _ _ type_sort self.types grows c.requires.owned.4) c.const_argument.ensures.shifted

pub returns-in_err-new-in-Some-clause-still : goal.returns-in_err-new-in-Some-clause-still
returns-in_err-new-in-Some-clause-still g c = λ h. c.const_argument.ensures.unshifted (open_unpassed _ (tree_in c.args.cx.now.rows (const_shape c.args.constant)) h)

pub returns-in_ok-new-in-Some-clause-still : goal.returns-in_ok-new-in-Some-clause-still
returns-in_ok-new-in-Some-clause-still g c = λ h. c.const_argument.ensures.unshifted (open_unpassed _ (tree_in c.args.cx.now.rows (const_shape c.args.constant)) h)
