-- by the typed call
use Rattle.std.proofs.Common.{refl, sym, subst, take, length}
use Rattle.std.proofs.lemmas.Result.{err_from_is_err_and}
use Rattle.tt_kinds.specs.Handle.{any_handle}
use Rattle.tt_kinds.specs.declared.table.TermTable.TheVariants as terms_of
use Rattle.tt_kinds.specs.Shape.{AreParts}
use Rattle.tt_kinds.specs.Kinds.{children_shapes}
use Rattle.tt_interner.specs.Rows.{consts_row, size}
use Rattle.tt_interner.proofs.NodeSteps.{IsRowOf, is_row_of_consts, consts_shapes, StoresList-ok, StoresList-err}
use Rattle.tt_interner.proofs.children.ConstStoredItem.store_few.Goals as goal

pub mk_consts-requires : goal.mk_consts-requires
mk_consts-requires c =
    let items = take (length c.args.children.now) c.put_items.new.places in
    subst (AreParts (size c.args.cx.now.rows)) (consts_shapes items)
    (subst (λ cs. AreParts (size c.args.cx.now.rows) (children_shapes cs)) (sym c.put_items.ensures) c.requires.parts)

pub returns-in_err-consts : goal.returns-in_err-consts
returns-in_err-consts c =
    let items = take (length c.args.children.now) c.put_items.new.places in
    let is = subst (IsRowOf terms_of.ConstLists (consts_row items)) c.put_items.ensures (is_row_of_consts items) in
    let p = err_from_is_err_and c.from_residual.result c.from_residual.ensures.1 in
    rw (p.1, p.2) (StoresList-err (λ list. list.number) _ _ terms_of.ConstLists (consts_row items) _ is (λ bad. bad) c.requires.parts _ c.in_err-consts.ensures)

pub returns : goal.returns
returns c =
    let items = take (length c.args.children.now) c.put_items.new.places in
    let is = subst (IsRowOf terms_of.ConstLists (consts_row items)) c.put_items.ensures (is_row_of_consts items) in
    rw c.any.ensures (StoresList-ok (λ list. list.number) _ _ terms_of.ConstLists (consts_row items) _ is (λ bad. bad) c.in_ok-consts.consts c.in_ok-consts.ensures (any_handle terms_of.ConstLists c.in_ok-consts.consts) refl refl)
