-- The declaration of an id, and the promise of a declaring call.
use Rattle.std.specs.Prelude.{◌≡◌, ℕ, ◌<◌, Bool, List, Option, Some, None, Result, IfOk, if◌then◌else◌, ⊤}
use Rattle.std.specs.Str.{bytes_eq}
use Rattle.tt_index.specs.declared.refusal.Refusal.{Refusal}
use Rattle.tt_kinds.specs.Handle.{Symbol}
use Rattle.tt_kinds.specs.declared.id.DefId.{DefId}
use Rattle.tt_kinds.specs.declared.declaration.Declaration.{Declaration}
use Rattle.tt_kinds.specs.declared.declaration.DeclarationKind.{DeclarationKind}
use Rattle.tt_kinds.specs.declared.declaration.DeclarationKind.TheVariants as kind
use Rattle.tt_kinds.specs.declared.declaration.DeclarationSort.{DeclarationSort}
use Rattle.tt_kinds.specs.Declaration.{sort_of}
use Rattle.tt_kinds.specs.declared.bound.BoundRegionKind.{BoundRegionKind}
use Rattle.tt_kinds.specs.declared.bound.BoundRegionKind.TheVariants as region
use Rattle.tt_kinds.specs.declared.table.Table.TheVariants.{Declarations}
use Rattle.tt_kinds.specs.Shape.{name_of}
use Rattle.tt_interner.specs.Rows.{Row, declared_row, size, meaning}
use Rattle.tt_interner.specs.Stored.{Terms, Extends, Adds, anonymous_text}
use Rattle.tt_interner.specs.Env.{row_at}
use Rattle.tt_kinds.specs.Handle.{handle}

-- the declaration of a row
abbrev pub declaration_of : Row → Declaration
declaration_of (declared_row n d) = d
declaration_of _ = record { kind = kind.Param; name = handle 0 }

-- the declaration of an id
unfoldable pub declared_at : List Row → DefId → Declaration
declared_at rows id = declaration_of (row_at rows Declarations id.number)

-- there is a declaration of this number, and it is of this sort
abbrev pub IsOfSort : List Row → DeclarationSort → ℕ → Type 0
IsOfSort rows sort number = (number < size rows Declarations)
    × (sort_of (declared_at rows (record { number = number })).kind ≡ sort)

-- a declaration of this kind and name is added, or refused
pub record Declares {H : Type 0} (result : Result H Refusal) (number : H → ℕ) (old new : Terms) (kind : DeclarationKind)
    (name : Symbol) : Type 0 where
  -- the new number is how many declarations there were, so none of them has this number
  pub adds : Adds result number old new (declared_row (size old.rows Declarations)
      (record { kind = kind; name = name }))
  -- what was there stays
  pub extends : Extends old new
  pub declared : IfOk result (λ h. declared_at new.rows (record { number = number h })
      ≡ record { kind = kind; name = name })

-- the name is `'_`
unfoldable pub is_anonymous : List Row → Symbol → Bool
is_anonymous rows name = bytes_eq (name_of (meaning rows) name.number) anonymous_text

-- the name of a bound region: its declaration's name, unless that is `'_`, or the name that the region is printed by
abbrev pub title : List Row → BoundRegionKind → Option Symbol
title rows (region.Named id) = if is_anonymous rows (declared_at rows id).name then None else Some
    (declared_at rows id).name
title rows (region.NamedForPrinting name) = Some name
title rows _ = None

-- the bound region has no declaration, or one among the rows
abbrev pub IsDeclaredRegion : List Row → BoundRegionKind → Type 0
IsDeclaredRegion rows (region.Named id) = id.number < size rows Declarations
IsDeclaredRegion rows _ = ⊤
