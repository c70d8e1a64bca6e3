-- The children of kinds and lists, by their sorts.
use Rattle.std.specs.Prelude.{◌≡◌, ◌⊎◌}
use Rattle.tt_kinds.specs.Handle.{any_handle}
use Rattle.tt_kinds.specs.declared.handle.Handle.{Handle}
use Rattle.tt_kinds.specs.declared.table.TermTable.{TermTable}
use Rattle.tt_kinds.specs.declared.table.TermTable.TheVariants.{Types, Consts, Patterns, Predicates, Existentials}
use Rattle.tt_kinds.specs.declared.table.TermTable.TheVariants.{ClauseLists, TypeLists, ConstLists, ArgLists, PatternLists}
use Rattle.tt_kinds.specs.declared.table.TermTable.TheVariants.{ExistentialLists}
use Rattle.tt_kinds.specs.declared.parts.Child.{Child}
use Rattle.tt_kinds.specs.declared.parts.Child.TheVariants as child
use Rattle.tt_kinds.specs.declared.parts.Parts.{Parts}
use Rattle.tt_kinds.specs.declared.term.Term.{Term}
use Rattle.tt_kinds.specs.declared.term.TermKind.{TermKind}
use Rattle.tt_kinds.specs.declared.term.TermKind.TheVariants as term

-- what a child is: nothing, a region, or a stored term or list of a table
pub data ChildSort : Type 0 where
  absent : ChildSort
  a_region : ChildSort
  a_stored : TermTable → ChildSort

-- the sort of a child
abbrev pub child_sort : Child → ChildSort
child_sort child.Absent = absent
child_sort (child.Region r) = a_region
child_sort (child.Stored r) = a_stored r.table

-- a handle of the table, as a child
abbrev pub child_in : {K : Type 0} → TermTable → Handle K → Child
child_in t h = child.Stored (any_handle t h)

-- each of the new parts is of the same sort as the old one in its place
pub record AreLike (old new : Parts) : Type 0 where
  pub first : child_sort new.first ≡ child_sort old.first
  pub second : child_sort new.second ≡ child_sort old.second

-- no children
abbrev pub no_parts : Parts
no_parts = record { first = child.Absent; second = child.Absent }

-- one child
abbrev pub one_part : Child → Parts
one_part c = record { first = c; second = child.Absent }

-- two children
abbrev pub two_parts : Child → Child → Parts
two_parts c d = record { first = c; second = d }

-- a type or a constant
abbrev pub IsTermSort : ChildSort → Type 0
IsTermSort absent = ⊥
IsTermSort a_region = ⊥
IsTermSort (a_stored t) = (t ≡ Types) ⊎ (t ≡ Consts)

-- which terms a list of the table may hold
abbrev pub IsItemOf : TermTable → TermTable → Type 0
IsItemOf TypeLists t = t ≡ Types
IsItemOf ArgLists t = (t ≡ Types) ⊎ (t ≡ Consts)
IsItemOf ConstLists t = t ≡ Consts
IsItemOf PatternLists t = t ≡ Patterns
IsItemOf ExistentialLists t = t ≡ Existentials
IsItemOf ClauseLists t = t ≡ Predicates
IsItemOf _ t = ⊥

-- which children a list of the table may hold
abbrev pub IsItem : TermTable → ChildSort → Type 0
IsItem l absent = ⊥
IsItem l a_region = l ≡ ArgLists
IsItem l (a_stored t) = IsItemOf l t

-- the kind of a term, as a child
abbrev pub term_kind_child : TermKind → Child
term_kind_child (term.Ty t) = child_in Types t
term_kind_child (term.Const c) = child_in Consts c

-- a term as a child
abbrev pub term_child : Term → Child
term_child t = term_kind_child t.kind
