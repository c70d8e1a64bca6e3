-- by the typed call
use Rattle.std.proofs.Common.{Err, refl, sym, subst, take, length}
use Rattle.std.proofs.lemmas.Bool.{false≢true}
use Rattle.std.proofs.lemmas.Result.{err_from_is_err_and}
use Rattle.tt_index.specs.declared.refusal.Refusal.TheVariants.{NotAClause}
use Rattle.tt_kinds.specs.Handle.{any_handle}
use Rattle.tt_kinds.specs.declared.table.TermTable.TheVariants as terms_of
use Rattle.tt_kinds.specs.Shape.{AreParts}
use Rattle.tt_kinds.specs.Kinds.{children_shapes}
use Rattle.tt_interner.specs.Rows.{clauses_row, size}
use Rattle.tt_interner.specs.Stored.{IsNoClauseList, StoresList, children_tree}
use Rattle.tt_interner.proofs.NodeSteps.{IsRowOf, is_row_of_clauses, StoresList-ok, StoresList-err, StoresList-other}
use Rattle.tt_interner.proofs.ClauseLaws.{no_other}
use Rattle.tt_interner.proofs.children.ClauseStoredItem.store_few.Goals as goal

pub returns-in_err-clauses : goal.returns-in_err-clauses
returns-in_err-clauses c =
    let items = take (length c.args.children.now) c.put_items.new.places in
    let is = subst (IsRowOf terms_of.ClauseLists (clauses_row items)) c.put_items.ensures (is_row_of_clauses items) in
    let fine = subst (λ cs. IsNoClauseList (children_tree c.args.cx.now.rows terms_of.ClauseLists cs) → ⊥) c.put_items.ensures (no_other c.args.cx.now.rows items (c.if-not-are_clauses.ensures.0 refl)) in
    let p = err_from_is_err_and c.from_residual.result c.from_residual.ensures.1 in
    rw (p.1, p.2) (StoresList-err (λ list. list.number) _ _ terms_of.ClauseLists (clauses_row items) _ is fine c.requires.parts _ c.in_err-clauses.ensures)

pub returns : goal.returns
returns c =
    let items = take (length c.args.children.now) c.put_items.new.places in
    let is = subst (IsRowOf terms_of.ClauseLists (clauses_row items)) c.put_items.ensures (is_row_of_clauses items) in
    let fine = subst (λ cs. IsNoClauseList (children_tree c.args.cx.now.rows terms_of.ClauseLists cs) → ⊥) c.put_items.ensures (no_other c.args.cx.now.rows items (c.if-not-are_clauses.ensures.0 refl)) in
    rw c.any.ensures (StoresList-ok (λ list. list.number) _ _ terms_of.ClauseLists (clauses_row items) _ is fine c.in_ok-clauses.clauses c.in_ok-clauses.ensures (any_handle terms_of.ClauseLists c.in_ok-clauses.clauses) refl refl)

pub returns-then-not-are_clauses : goal.returns-then-not-are_clauses
returns-then-not-are_clauses c =
    let items = take (length c.args.children.now) c.put_items.new.places in
    let parts = subst (λ cs. AreParts (size c.args.cx.now.rows) (children_shapes cs)) (sym c.put_items.ensures) c.requires.parts in
    subst (StoresList (Err NotAClause) _ _ terms_of.ClauseLists) c.put_items.ensures
    (StoresList-other _ c.are_rows.ensures.are items parts (λ h. false≢true (c.if-not-are_clauses.ensures.1 h)))
