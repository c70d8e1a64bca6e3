-- What a kind itself names, without its contents.
use Rattle.std.specs.Prelude.{ℕ, ◌<◌, Option, Some, None, ⊤}
use Rattle.tt_kinds.specs.Label.{Label}
use Rattle.tt_kinds.specs.Shape.{Sizes, IsNamedKind, IsNamedRecord, IsNamedLabel}
use Rattle.tt_kinds.specs.Handle.{BoundVarKinds}
use Rattle.tt_kinds.specs.declared.table.Table.TheVariants.{VarLists, Symbols}
use Rattle.tt_kinds.specs.Kinds.{Form, param, bound, plain, under}

-- the names in a kind of this form, outside of its contents, are in the table of symbols
abbrev pub IsNamedForm : Sizes → Form (Label ℕ) → Type 0
IsNamedForm size (param i name) = name < size Symbols
IsNamedForm size (bound d e) = IsNamedKind size e.kind
IsNamedForm size (plain l p) = IsNamedLabel size l
IsNamedForm size (under l vars m p) = IsNamedLabel size l × IsNamedRecord size m

-- the list of a binder's variables, if there is one, is in its table
abbrev pub IsBinderIn : Sizes → Option BoundVarKinds → Type 0
IsBinderIn size (Some vars) = vars.number < size VarLists
IsBinderIn size None = ⊤
