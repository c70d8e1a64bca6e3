-- Tables of bindings, and the substitutions that they are.
use Rattle.std.specs.Prelude.{◌≡◌, ◌≤◌, ℕ, zero, suc, List, [], ◌∷◌, ◌++◌, length, take, Option, Some, None}
use Rattle.tt_kinds.specs.Tree.{Depth, Tree, node, Forest, none, also}
use Rattle.tt_kinds.specs.Shape.{Shape, fill}
use Rattle.tt_kinds.specs.Kinds.{ty_shape}
use Rattle.tt_kinds.specs.Values.{option_shape, sequence_shape}
use Rattle.tt_kinds.specs.Handle.{Ty}
use Rattle.tt_interner.specs.Rows.{meaning}
use Rattle.tt_interner.specs.Owned.{IsOwned}
use Rattle.tt_interner.specs.Stored.{Terms}
use Rattle.unify.specs.Substitution.{Substitution, Refines}
use Rattle.unify.specs.Triangular.{AreClosed, IsAcyclic, model}
use Rattle.unify.specs.Undo.{entries_at}
use Rattle.unify.specs.declared.undo.Table as undo

-- a table: an entry for each variable, by the variable's number
abbrev pub table_shape : List (Option Ty) → Shape
table_shape entries = sequence_shape (option_shape ty_shape) entries

-- the binding in an entry, which has one child or none
abbrev pub entry_binding : Tree Depth → Option (Tree Depth)
entry_binding (node l (also t ts)) = Some t
entry_binding _ = None

-- the binding in the entry of this number
abbrev pub binding_at : Forest Depth → ℕ → Option (Tree Depth)
binding_at none v = None
binding_at (also e es) zero = entry_binding e
binding_at (also e es) (suc v) = binding_at es v

-- the entries of a table's tree
abbrev pub entries_of : Tree Depth → Forest Depth
entries_of (node l es) = es
entries_of _ = none

-- the substitution that a table's tree is
abbrev pub read : Tree Depth → Substitution
read table v = binding_at (entries_of table) v

-- what each entry binds, as it was bound
abbrev pub stored : Terms → List (Option Ty) → Substitution
stored terms entries = read (fill (meaning terms.rows) (table_shape entries))

-- what the entries bind, with all bound variables replaced
abbrev pub values : Terms → List (Option Ty) → Substitution
values terms entries = model (length entries) (stored terms entries)

-- the entries are the interner's, no variable is within itself, and none is bound to what has a variable of a binder
-- around it
pub record AreEntries (terms : Terms) (entries : List (Option Ty)) : Type 0 where
  pub owned : IsOwned table_shape terms entries
  pub acyclic : IsAcyclic (stored terms entries)
  pub closed : AreClosed (stored terms entries)

-- a table of bindings: an entry for each variable, and the variables that were bound, in this order
pub record Table : Type 0 where
  pub entries : List (Option Ty)
  pub bound : List ℕ

-- the table without variables
abbrev pub no_table : Table
no_table = record { entries = []; bound = [] }

-- the table with one more variable, which is unbound
abbrev pub with_variable : Table → Table
with_variable b = record { entries = b.entries ++ None ∷ []; bound = b.bound }

-- the substitution that a table is
abbrev pub substitution : Terms → Table → Substitution
substitution terms b = values terms b.entries

-- the table's entries are so
abbrev pub IsTable : Terms → Table → Type 0
IsTable terms b = AreEntries terms b.entries

-- the later bindings are a table that has the earlier bindings, with further variables replaced, and perhaps others
pub record IsRefined (terms : Terms) (b : Table) (later : Terms) (refined : Table) : Type 0 where
  pub table : IsTable later refined
  pub refines : Refines (substitution terms b) (substitution later refined)

-- what the table was when n variables were there, and k of them bound
abbrev pub table_at : ℕ → ℕ → Table → Table
table_at n k b = record { entries = entries_at n k b.bound b.entries; bound = take k b.bound }

-- the later table has as many variables and as many bound ones, or more, and was what the table was with fewer of them
pub record KeepsEarlier (b later : Table) : Type 0 where
  pub variables : length b.entries ≤ length later.entries
  pub bindings : length b.bound ≤ length later.bound
  pub same : (n k : ℕ) → n ≤ length b.entries → k ≤ length b.bound → table_at n k later ≡ table_at n k b

-- what the code keeps of a table
abbrev pub table_of : undo.Table → Table
table_of t = record { entries = t.entries.items; bound = t.bound.items }
