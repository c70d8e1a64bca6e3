use Rattle.std.proofs.Common.{refl, sym, ◌∙◌}
use Rattle.std.proofs.lemmas.Result.{err_from_is_err_and}
use Rattle.tt_kinds.specs.Label.{type_sort, const_sort}
use Rattle.tt_kinds.specs.Bound.{ty_entry}
use Rattle.tt_kinds.specs.declared.table.Table.TheVariants.{Types}
use Rattle.tt_kinds.specs.Handle.{any_handle}
use Rattle.tt_kinds.specs.declared.table.TermTable.TheVariants as terms_of
use Rattle.tt_kinds.specs.Kinds.{ty_shape, const_shape}
use Rattle.tt_interner.specs.Rows.{meaning}
use Rattle.tt_fold.specs.Steps.{tree_in}
use Rattle.tt_fold.specs.Remember.{remembered}
use Rattle.tt_fold.proofs.PartLaws.{in_range}
use Rattle.tt_fold.proofs.TypeLaws.{part-type}
use Rattle.tt_fold.proofs.FoldSteps.{stored_is_kind}
use Rattle.tt_fold.proofs.BoundLaws.{type_tree, type_other, bound_outer, term_taken}
use Rattle.tt_binder.specs.ArgumentLaws.{OwnsShifts-still}
use Rattle.tt_binder.specs.OpenerLaws.{opener-kept, opening-still}
use Rattle.tt_binder.proofs.OpeningSteps.{left_step, opened_step, opened_apart, variable_at, opens_at, refuses_at}
use Rattle.tt_binder.proofs.binder_opener.BinderOpenerTypeFolder.fold_ty.Goals as goal

pub returns-then-not-opens-clause-result : goal.returns-then-not-opens-clause-result
returns-then-not-opens-clause-result g c = (tt, left_step _ _ (rw c.outer_exclusive_binder.ensures at c.if-not-opens.ensures.1))

pub node_kind-kind-requires-clause-owned : goal.node_kind-kind-requires-clause-owned
node_kind-kind-requires-clause-owned g c = rw c.any.ensures (in_range c.args.cx.now.rows Types c.args.ty.number c.requires.ty)

pub node_kind-kind-requires-clause-has_kind : goal.node_kind-kind-requires-clause-has_kind
node_kind-kind-requires-clause-has_kind g c = rw c.any.ensures refl

pub opened_ty-requires-clause-outer : goal.opened_ty-requires-clause-outer
opened_ty-requires-clause-outer g c =
    let tree = stored_is_kind c.args.cx.now.rows (any_handle terms_of.Types c.args.ty) c.node_kind-kind.result (rw c.any.ensures at c.node_kind-kind.ensures.means) in
    let far = rw c.outer_exclusive_binder.ensures at (c.if-not-opens.ensures.0 refl) in
    let is = type_tree (meaning c.args.cx.now.rows) c.node_kind-kind.result c.in-Some.index c.in-Some.bound_ty (sym c.bound_ty.ensures ∙ c.in-Some.is) in
    bound_outer (meaning c.args.cx.now.rows) (record { amount = 0; under = c.args.self.now.binders_passed }) type_sort c.in-Some.index (ty_entry c.in-Some.bound_ty) (tree_in c.args.cx.now.rows (ty_shape c.args.ty)) (tree ∙ is) far

pub returns-in_err-opened-in-Some-clause-owned : goal.returns-in_err-opened-in-Some-clause-owned
returns-in_err-opened-in-Some-clause-owned g c =
    let self = c.args.self.now in
    let grows = c.opened_ty.ensures.extends.rows in
    opener-kept g.met.S.SliceLike.still_owned g.met.S.SliceLike.still_items _ _ self.args self.memory self.types self.consts c.opened_ty.new.shifted self.consts grows c.requires.owned
    c.opened_ty.ensures.shifted (OwnsShifts-still const_shape _ _ _ const_sort self.consts grows c.requires.owned.4)

pub returns-in_err-opened-in-Some-clause-result : goal.returns-in_err-opened-in-Some-clause-result
returns-in_err-opened-in-Some-clause-result g c =
    let p = err_from_is_err_and c.from_residual.result c.from_residual.ensures.1 in
    let tree = stored_is_kind c.args.cx.now.rows (any_handle terms_of.Types c.args.ty) c.node_kind-kind.result (rw c.any.ensures at c.node_kind-kind.ensures.means) in
    let is = type_tree (meaning c.args.cx.now.rows) c.node_kind-kind.result c.in-Some.index c.in-Some.bound_ty (sym c.bound_ty.ensures ∙ c.in-Some.is) in
    rw (p.1, p.2) (c.opened_ty.ensures.descents, c.opened_ty.ensures.shift_descents, refuses_at _ _ _ _ _ _ (tree ∙ is) c.in_err-opened-in-Some.ensures.result)

pub returns-in_ok-opened-in-Some-clause-owned : goal.returns-in_ok-opened-in-Some-clause-owned
returns-in_ok-opened-in-Some-clause-owned g c =
    let self = c.args.self.now in
    let grows = c.opened_ty.ensures.extends.rows in
    opener-kept g.met.S.SliceLike.still_owned g.met.S.SliceLike.still_items _ _ self.args self.memory self.types self.consts c.opened_ty.new.shifted self.consts grows c.requires.owned
    c.opened_ty.ensures.shifted (OwnsShifts-still const_shape _ _ _ const_sort self.consts grows c.requires.owned.4)

pub returns-in_ok-opened-in-Some-clause-result : goal.returns-in_ok-opened-in-Some-clause-result
returns-in_ok-opened-in-Some-clause-result g c =
    let old = c.args.cx.now.rows in
    let new = c.opened_ty.new.cx.rows in
    let self = c.args.self.now in
    let grows = c.opened_ty.ensures.extends.rows in
    let owned = c.requires.owned in
    let same = g.met.S.SliceLike.still_items old new self.args grows owned.0 in
    let tree = stored_is_kind c.args.cx.now.rows (any_handle terms_of.Types c.args.ty) c.node_kind-kind.result (rw c.any.ensures at c.node_kind-kind.ensures.means) in
    let is = type_tree (meaning c.args.cx.now.rows) c.node_kind-kind.result c.in-Some.index c.in-Some.bound_ty (sym c.bound_ty.ensures ∙ c.in-Some.is) in
    let h = c.in_ok-opened-in-Some.ensures.result in (
      h.0,
      opened_step c.args.cx.now c.opened_ty.new.cx (g.S.SliceLike.items old self.args) (g.S.SliceLike.items new self.args) self.binders_passed self.memory _ _
          (opening-still old new (g.S.SliceLike.items old self.args) (g.S.SliceLike.items new self.args) self.binders_passed self.memory grows same owned.1 owned.2)
          (variable_at (meaning old) type_sort c.in-Some.index (ty_entry c.in-Some.bound_ty) _ (tree ∙ is)) (opens_at _ _ _ _ _ (tree ∙ is) h.1)
          c.opened_ty.ensures.descents c.opened_ty.ensures.shift_descents,
    )

pub returns-in-Some-look_up-clause-result : goal.returns-in-Some-look_up-clause-result
returns-in-Some-look_up-clause-result g c = (c.in-Some-look_up.ensures.trees.0, remembered c.in-Some-look_up.ensures.trees.1)

pub returns-in-None-look_up-clause-result : goal.returns-in-None-look_up-clause-result
returns-in-None-look_up-clause-result g c =
    let tree = stored_is_kind c.args.cx.now.rows (any_handle terms_of.Types c.args.ty) c.node_kind-kind.result (rw c.any.ensures at c.node_kind-kind.ensures.means) in
    let far = rw c.outer_exclusive_binder.ensures at (c.if-not-opens.ensures.0 refl) in
    let other = type_other (meaning c.args.cx.now.rows) c.node_kind-kind.result (rw c.any.ensures at c.node_kind-kind.ensures.table) (sym c.bound_ty.ensures ∙ c.in-None.is) in
    let t = tree_in c.args.cx.now.rows (ty_shape c.args.ty) in
    let k = c.args.self.now.binders_passed in
    let taken = term_taken k k t (part-type c.args.cx.now.rows Types c.args.ty.number c.requires.ty) (rw tree other) far in
    let h = c.count_descent.ensures in
    (tt, opened_apart c.args.cx.now c.count_descent.new.self (λ rows. g.S.SliceLike.items rows c.args.self.now.args) k c.args.self.now.memory t h.rows h.descents h.shift_descents taken c.in-None-look_up.ensures.trees)
