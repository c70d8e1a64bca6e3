-- Laws of all rows that an interner may have.
use Rattle.std.specs.Prelude.{◌≡◌, ◌↔◌, ℕ, ◌<◌, List, Some}
use Rattle.tt_kinds.specs.declared.table.Table.{Table}
use Rattle.tt_kinds.specs.declared.table.Table.TheVariants.{Declarations}
use Rattle.tt_kinds.specs.declared.id.DefId.{DefId}
use Rattle.tt_interner.specs.Rows.{Row, size, meaning, AreRows, Grows}
use Rattle.tt_interner.specs.Stored.{IsAt}
use Rattle.tt_interner.specs.Declarations.{declared_at}
use Rattle.tt_interner.specs.Definitions.{variants_of}
use Rattle.tt_kinds.specs.Variant.{Variant}

-- handles in range are equal exactly when their trees are
abbrev pub AreInterned : List Row → Type 0
AreInterned rows = (t : Table) (n m : ℕ) → n < size rows t → m < size rows t → (meaning rows t n ≡ meaning rows t m)
    ↔ (n ≡ m)

-- for all rows that an interner may have, handles in range are equal exactly when their trees are
abbrev pub EqualTrees : Type 0
EqualTrees = (rows : List Row) → AreRows rows → AreInterned rows

-- handles in range stay in range and keep their trees, whatever rows are added
abbrev pub KeepsTrees : Type 0
KeepsTrees = (old new : List Row) → Grows old new → (t : Table) (n : ℕ) → n < size old t → (n < size new t)
    × (meaning new t n ≡ meaning old t n)

-- a row stays stored under its number, whatever rows are added
abbrev pub KeepsRows : Type 0
KeepsRows = (old new : List Row) → Grows old new → (r : Row) (n : ℕ) → IsAt old r n → IsAt new r n

-- the declaration of an id stays, whatever rows are added
abbrev pub KeepsDeclarations : Type 0
KeepsDeclarations = (old new : List Row) → Grows old new → (id : DefId) → id.number < size old Declarations
    → (id.number < size new Declarations) × (declared_at new id ≡ declared_at old id)

-- the variants of a data type stay, whatever rows are added
abbrev pub KeepsDefinitions : Type 0
KeepsDefinitions = (old new : List Row) → Grows old new → (n : ℕ) (vs : List Variant) → variants_of old n ≡ Some vs
    → variants_of new n ≡ Some vs
