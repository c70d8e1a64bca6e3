-- What a handle's row says.
use Rattle.std.specs.Prelude.{◌≡◌, ℕ, List}
use Rattle.tt_kinds.specs.Shape.{HasParts, fill}
use Rattle.tt_kinds.specs.declared.table.Table.{Table}
use Rattle.tt_interner.specs.Rows.{Row, row_shape, size, meaning, age, IsOlder}
use Rattle.tt_interner.specs.Stored.{IsAt}

-- the row of the handle n in the table t is r; what r names is among the rows and came before r, and the tree of the
-- handle is the tree of r
pub record Reads (rows : List Row) (t : Table) (n : ℕ) (r : Row) : Type 0 where
  pub row : IsAt rows r n
  pub parts : HasParts (size rows) (row_shape r)
  pub means : meaning rows t n ≡ fill (meaning rows) (row_shape r)
  pub older : IsOlder rows (age rows t n) (row_shape r)
