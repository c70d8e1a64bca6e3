-- The variants of a data type, and their fields.
use Rattle.std.specs.Prelude.{◌≤◌, List, Option, length}
use Rattle.std.specs.List.{All}
use Rattle.tt_index.specs.Greatest.{greatest}
use Rattle.tt_kinds.specs.Handle.{Symbol}
use Rattle.tt_kinds.specs.declared.variant.FieldDef.{FieldDef}
use Rattle.tt_kinds.specs.declared.variant.VariantDef.{VariantDef}

-- a variant without its vector: its name, if it has one, and its fields in order
pub record Variant : Type 0 where
  pub name : Option Symbol
  pub fields : List FieldDef

-- the variant, with its fields as a list
abbrev pub variant_of : VariantDef → Variant
variant_of v = record { name = v.name; fields = v.fields.items }

-- there are at most as many variants, and fields in each of them, as the greatest index counts
abbrev pub HasIndices : List Variant → Type 0
HasIndices vs = (length vs ≤ greatest) × All (λ v. length v.fields ≤ greatest) vs
