-- Aliases.
use Rattle.std.specs.Prelude.{ℕ, List, Option, Some, None, codes}
use Rattle.tt_kinds.specs.declared.alias.AliasTyKind.{AliasTyKind}
use Rattle.tt_kinds.specs.declared.alias.AliasTyKind.TheVariants.{Projection, Inherent, Opaque, Free}
use Rattle.tt_kinds.specs.declared.declaration.DeclarationSort.{DeclarationSort}
use Rattle.tt_kinds.specs.declared.declaration.DeclarationSort.TheVariants as sort
use Rattle.tt_kinds.specs.Id.{id_of}

-- the sort of an alias's declaration
abbrev pub alias_sort : AliasTyKind → DeclarationSort
alias_sort (Projection d) = sort.AssocTy
alias_sort (Inherent d) = sort.Inherent
alias_sort (Opaque d) = sort.Opaque
alias_sort (Free d) = sort.Free

-- the name of a kind of alias in messages, in bytes
abbrev pub alias_name : AliasTyKind → List ℕ
alias_name (Projection d) = codes "associated type"
alias_name (Inherent d) = codes "inherent associated type"
alias_name (Opaque d) = codes "opaque type"
alias_name (Free d) = codes "type alias"

-- the number of an alias's declaration
abbrev pub alias_number : AliasTyKind → ℕ
alias_number (Projection d) = d.number
alias_number (Inherent d) = d.number
alias_number (Opaque d) = d.number
alias_number (Free d) = d.number

-- the kind of the alias whose declaration has this sort and number, if the sort is an alias's
abbrev pub alias_of : DeclarationSort → ℕ → Option AliasTyKind
alias_of sort.AssocTy number = Some (Projection (id_of number))
alias_of sort.Inherent number = Some (Inherent (id_of number))
alias_of sort.Opaque number = Some (Opaque (id_of number))
alias_of sort.Free number = Some (Free (id_of number))
alias_of _ number = None
