-- The definitions of data types, and the promise of a defining call.
use Rattle.std.specs.Prelude.{◌≡◌, ℕ, ◌<◌, ◌≤◌, ◌==◌, List, [], ◌∷◌, length, Option, Some, None, is_some, IsTrue}
use Rattle.std.specs.Prelude.{Result, OnOk, OnErr, IfErr, if◌then◌else◌, ⊤}
use Rattle.std.specs.List.{All}
use Rattle.std.specs.Option.{option_or}
use Rattle.tt_index.specs.Greatest.{greatest}
use Rattle.tt_index.specs.declared.refusal.Refusal.{Refusal}
use Rattle.tt_index.specs.declared.refusal.Refusal.TheVariants.{Memory}
use Rattle.tt_kinds.specs.Variant.{Variant}
use Rattle.tt_kinds.specs.Handle.{Symbol}
use Rattle.tt_kinds.specs.declared.variant.FieldDef.{FieldDef}
use Rattle.tt_kinds.specs.declared.variant.VariantDef.{VariantDef}
use Rattle.tt_kinds.specs.declared.table.Table.TheVariants.{Definitions, Symbols, Types}
use Rattle.tt_interner.specs.Rows.{Row, defined_row, table, size}
use Rattle.tt_interner.specs.Stored.{Terms, Extends}

-- the variants in the row, if it defines the data type of the number
abbrev pub variants_in : ℕ → Row → Option (List Variant)
variants_in n (defined_row m vs) = if n == m then Some vs else None
variants_in n _ = None

-- the variants in the first of the rows that defines the data type of the number
abbrev pub variants_among : ℕ → List Row → Option (List Variant)
variants_among n [] = None
variants_among n (r ∷ rows) = option_or (variants_in n r) (variants_among n rows)

-- the variants of the data type of the number, if it is defined
unfoldable pub variants_of : List Row → ℕ → Option (List Variant)
variants_of rows n = variants_among n (table Definitions rows)

-- the data type of the number is defined
abbrev pub IsDefined : List Row → ℕ → Type 0
IsDefined rows n = IsTrue (is_some (variants_of rows n))

-- the name is in range, if there is one
abbrev pub HasOwnName : List Row → Option Symbol → Type 0
HasOwnName rows None = ⊤
HasOwnName rows (Some name) = name.number < size rows Symbols

-- the field's name and type are in range
abbrev pub IsOwnField : List Row → FieldDef → Type 0
IsOwnField rows f = (f.name.number < size rows Symbols) × (f.ty.number < size rows Types)

-- the names and types in the variant are in range
abbrev pub IsOwnVariant : List Row → VariantDef → Type 0
IsOwnVariant rows v = HasOwnName rows v.name × All (IsOwnField rows) v.fields.items

-- there are no more variants, and no more fields in any of them, than indices can number
abbrev pub FitsDeclaration : List VariantDef → Type 0
FitsDeclaration vs = (length vs ≤ greatest) × All (λ v. length v.fields.items ≤ greatest) vs

-- the data type of the number gets the variants, or memory is refused and nothing changes
pub record Defines {T : Type 0} (result : Result T Refusal) (old new : Terms) (n : ℕ) (vs : List Variant) : Type 0 where
  pub rows : OnOk result (new.rows ≡ defined_row n vs ∷ old.rows)
  pub defined : OnOk result (variants_of new.rows n ≡ Some vs)
  -- what was there stays
  pub extends : Extends old new
  pub limit : new.limit ≡ old.limit
  pub counters : new.counters ≡ old.counters
  pub err : OnErr result (new ≡ old)
  pub cause : IfErr result (λ e. e ≡ Memory)
