-- Which values of an interner fit: laws of all rows, which exclude the refusal `GreatestIndex`.
use Rattle.std.specs.Prelude.{ℕ, ◌+◌, ◌≤◌, List}
use Rattle.tt_index.specs.Greatest.{greatest}
use Rattle.tt_kinds.specs.Reading.{read, Fits}
use Rattle.tt_kinds.specs.Shape.{Shape, IsPart, fill}
use Rattle.tt_kinds.specs.Range.{IndicesFit, IndicesFitIn, binders_in}
use Rattle.tt_kinds.specs.Fitting.{BindersFit}
use Rattle.tt_kinds.specs.declared.table.Table.TheVariants.{Types, Predicates, Existentials}
use Rattle.tt_interner.specs.Rows.{Row, size, meaning, AreRows}

-- each index in a value's tree is in range, if the indices in the value itself are; a handle has none
abbrev pub StoredIndicesFit : Type 0
StoredIndicesFit = (rows : List Row) (s : Shape) → AreRows rows → IsPart (size rows) s → IndicesFitIn s
    → IndicesFit (fill (meaning rows) s)

-- so the value fits, if its binders do
abbrev pub StoredFit : Type 0
StoredFit = (rows : List Row) (s : Shape) → AreRows rows → IsPart (size rows) s → IndicesFitIn s
    → BindersFit 0 (fill (meaning rows) s) → Fits (read 0 (fill (meaning rows) s))

-- how many rows may have a binder: types, predicates and existential predicates, each of which has at most one
abbrev pub nesting_bound : List Row → ℕ
nesting_bound rows = size rows Types + size rows Predicates + size rows Existentials

-- A value's binders fit under k more, if there is room for k, for the value's own, and for one binder in each row that
-- may have one.
abbrev pub FewRowsFit : Type 0
FewRowsFit = (rows : List Row) (k : ℕ) (s : Shape) → AreRows rows → IsPart (size rows) s
    → k + binders_in s + nesting_bound rows ≤ greatest → BindersFit k (fill (meaning rows) s)
