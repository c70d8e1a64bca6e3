-- by the typed call
use Rattle.std.proofs.Common.{refl}
use Rattle.std.proofs.lemmas.Bool.{false≢true}
use Rattle.std.proofs.lemmas.Result.{err_from_is_err_and}
use Rattle.tt_kinds.specs.Handle.{any_handle}
use Rattle.tt_kinds.specs.declared.table.TermTable.TheVariants as terms_of
use Rattle.tt_interner.specs.Rows.{clauses_row}
use Rattle.tt_interner.proofs.NodeSteps.{is_row_of_clauses, StoresList-ok, StoresList-err, StoresList-other}
use Rattle.tt_interner.proofs.ClauseLaws.{no_other}
use Rattle.tt_interner.proofs.children.ClauseStoredItem.store.Goals as goal

pub returns-in_err-list : goal.returns-in_err-list
returns-in_err-list c =
    let p = err_from_is_err_and c.from_residual.result c.from_residual.ensures.1 in
    rw (p.1, p.2) (StoresList-err (λ list. list.number) _ _ terms_of.ClauseLists (clauses_row c.args.items.items) _ (is_row_of_clauses c.args.items.items) (no_other _ c.args.items.items (rw c.as_slice.ensures.value at (c.if-not-are_clauses.ensures.0 refl))) c.requires _ c.in_err-list.ensures)

pub returns : goal.returns
returns c = rw c.any.ensures (StoresList-ok (λ list. list.number) _ _ terms_of.ClauseLists (clauses_row c.args.items.items) _ (is_row_of_clauses c.args.items.items) (no_other _ c.args.items.items (rw c.as_slice.ensures.value at (c.if-not-are_clauses.ensures.0 refl))) c.in_ok-list.list c.in_ok-list.ensures (any_handle terms_of.ClauseLists c.in_ok-list.list) refl refl)

pub returns-then-not-are_clauses : goal.returns-then-not-are_clauses
returns-then-not-are_clauses c = StoresList-other _ c.are_rows.ensures.are c.args.items.items c.requires (λ h. false≢true (c.if-not-are_clauses.ensures.1 (rw c.as_slice.ensures.value h)))
