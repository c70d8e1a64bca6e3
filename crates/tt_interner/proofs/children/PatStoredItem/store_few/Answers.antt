-- by the typed call
use Rattle.std.proofs.Common.{refl, sym, subst, take, length}
use Rattle.std.proofs.lemmas.Result.{err_from_is_err_and}
use Rattle.tt_kinds.specs.Handle.{any_handle}
use Rattle.tt_kinds.specs.declared.table.TermTable.TheVariants as terms_of
use Rattle.tt_kinds.specs.Shape.{AreParts}
use Rattle.tt_kinds.specs.Kinds.{children_shapes}
use Rattle.tt_interner.specs.Rows.{pats_row, size}
use Rattle.tt_interner.proofs.NodeSteps.{IsRowOf, is_row_of_pats, pats_shapes, StoresList-ok, StoresList-err}
use Rattle.tt_interner.proofs.children.PatStoredItem.store_few.Goals as goal

pub mk_pat_list-requires : goal.mk_pat_list-requires
mk_pat_list-requires c =
    let items = take (length c.args.children.now) c.put_items.new.places in
    subst (AreParts (size c.args.cx.now.rows)) (pats_shapes items)
    (subst (λ cs. AreParts (size c.args.cx.now.rows) (children_shapes cs)) (sym c.put_items.ensures) c.requires.parts)

pub returns-in_err-pats : goal.returns-in_err-pats
returns-in_err-pats c =
    let items = take (length c.args.children.now) c.put_items.new.places in
    let is = subst (IsRowOf terms_of.PatternLists (pats_row items)) c.put_items.ensures (is_row_of_pats items) in
    let p = err_from_is_err_and c.from_residual.result c.from_residual.ensures.1 in
    rw (p.1, p.2) (StoresList-err (λ list. list.number) _ _ terms_of.PatternLists (pats_row items) _ is (λ bad. bad) c.requires.parts _ c.in_err-pats.ensures)

pub returns : goal.returns
returns c =
    let items = take (length c.args.children.now) c.put_items.new.places in
    let is = subst (IsRowOf terms_of.PatternLists (pats_row items)) c.put_items.ensures (is_row_of_pats items) in
    rw c.any.ensures (StoresList-ok (λ list. list.number) _ _ terms_of.PatternLists (pats_row items) _ is (λ bad. bad) c.in_ok-pats.pats c.in_ok-pats.ensures (any_handle terms_of.PatternLists c.in_ok-pats.pats) refl refl)
