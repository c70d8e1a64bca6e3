-- Declarations by their sort, and the texts of ids.
use Rattle.std.specs.Prelude.{ℕ, List, ◌++◌, codes}
use Rattle.std.specs.Fmt.{decimal}
use Rattle.tt_kinds.specs.declared.declaration.DeclarationKind.{DeclarationKind}
use Rattle.tt_kinds.specs.declared.declaration.DeclarationKind.TheVariants as kind
use Rattle.tt_kinds.specs.declared.declaration.DeclarationSort.{DeclarationSort}
use Rattle.tt_kinds.specs.declared.declaration.DeclarationSort.TheVariants as sort

-- the sort of what is declared
abbrev pub sort_of : DeclarationKind → DeclarationSort
sort_of (kind.Trait params) = sort.Trait
sort_of (kind.AssocTy trait_id) = sort.AssocTy
sort_of kind.Impl = sort.Impl
sort_of (kind.Inherent impl_id) = sort.Inherent
sort_of kind.Adt = sort.Adt
sort_of (kind.Fn sig) = sort.Fn
sort_of kind.Opaque = sort.Opaque
sort_of kind.Free = sort.Free
sort_of kind.Foreign = sort.Foreign
sort_of kind.Closure = sort.Closure
sort_of kind.CoroutineClosure = sort.CoroutineClosure
sort_of kind.Coroutine = sort.Coroutine
sort_of kind.Const = sort.Const
sort_of kind.Param = sort.Param

-- the text of an id: its number after a `#`
abbrev pub id_text : ℕ → List ℕ
id_text number = codes "#" ++ decimal number
