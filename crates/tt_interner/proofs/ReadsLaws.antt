-- What a handle's row says, of all rows that an interner may have.
use Rattle.std.proofs.Common.{◌≡◌, ℕ, List, slice_get, Some, subst}
use Rattle.tt_kinds.specs.declared.table.Table.{Table}
use Rattle.tt_interner.specs.Rows.{Row, row_table, table, AreRows}
use Rattle.tt_interner.specs.Stored.{IsAt}
use Rattle.tt_interner.specs.Reads.{Reads}
use Rattle.tt_interner.proofs.Trees.{Means-row}
use Rattle.tt_interner.proofs.NodeSteps.{older_row}

-- the row of a handle tells the handle's tree, and what the row holds is in range and came before it
pub reads : (rows : List Row) → AreRows rows → (t : Table) (n : ℕ) (r : Row) → row_table r ≡ t → IsAt rows r n → Reads rows t n r
reads rows are t n r same at =
    let here : slice_get (table t rows) n ≡ Some r = subst (λ u. slice_get (table u rows) n ≡ Some r) same at in
    let means = Means-row rows are t n r here in
    record { row = at; parts = means.parts; means = means.tree; older = older_row rows are t n r here }
