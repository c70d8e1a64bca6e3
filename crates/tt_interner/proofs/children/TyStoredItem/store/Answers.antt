-- by the typed call
use Rattle.std.proofs.Common.{refl, subst}
use Rattle.std.proofs.lemmas.Result.{err_from_is_err_and}
use Rattle.tt_kinds.specs.Handle.{any_handle}
use Rattle.tt_kinds.specs.declared.table.TermTable.TheVariants as terms_of
use Rattle.tt_kinds.specs.Shape.{AreParts}
use Rattle.tt_interner.specs.Rows.{tys_row, size}
use Rattle.tt_interner.proofs.NodeSteps.{is_row_of_tys, tys_shapes, StoresList-ok, StoresList-err}
use Rattle.tt_interner.proofs.children.TyStoredItem.store.Goals as goal

pub mk_tys-requires : goal.mk_tys-requires
mk_tys-requires c = rw c.as_slice.ensures.value (subst (AreParts (size c.args.cx.now.rows)) (tys_shapes c.args.items.items) c.requires)

pub returns-in_err-list : goal.returns-in_err-list
returns-in_err-list c =
    let p = err_from_is_err_and c.from_residual.result c.from_residual.ensures.1 in
    rw (p.1, p.2) (StoresList-err (λ list. list.number) _ _ terms_of.TypeLists (tys_row c.args.items.items) _ (is_row_of_tys c.args.items.items) (λ bad. bad) c.requires _ (rw c.as_slice.ensures.value at c.in_err-list.ensures))

pub returns : goal.returns
returns c = rw c.any.ensures (StoresList-ok (λ list. list.number) _ _ terms_of.TypeLists (tys_row c.args.items.items) _ (is_row_of_tys c.args.items.items) (λ bad. bad) c.in_ok-list.list (rw c.as_slice.ensures.value at c.in_ok-list.ensures) (any_handle terms_of.TypeLists c.in_ok-list.list) refl refl)
