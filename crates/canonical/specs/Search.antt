-- How far a search for the variables of a type is that takes each type apart once.
use Rattle.std.specs.Prelude.{◌≡◌, ◌<◌, ◌⊎◌, ℕ, true, eqb, List, [], ◌∷◌, ⊤}
use Rattle.std.specs.List.{list_any}
use Rattle.tt_kinds.specs.Tree.{Depth, Tree}
use Rattle.tt_kinds.specs.Kinds.{handle_shape, ty_shape}
use Rattle.tt_kinds.specs.Handle.{Ty}
use Rattle.tt_kinds.specs.TermTable.{term_table}
use Rattle.tt_interner.specs.Rows.{Row, size}
use Rattle.tt_interner.specs.Stored.{Terms}
use Rattle.tt_interner.specs.Owned.{tree_in}
use Rattle.unify.specs.Substitution.{IsWithout}
use Rattle.canonical.specs.Canonical.{collect}
use Rattle.canonical.specs.declared.search.Visit.{Visit}
use Rattle.canonical.specs.declared.search.Visit.TheVariants.{Enter, Leave}

-- the variable is in the list
abbrev pub Has : List ℕ → ℕ → Type 0
Has found v = list_any (eqb v) found ≡ true

-- each variable of the tree is in the list
abbrev pub Knows : List ℕ → Tree Depth → Type 0
Knows found t = (v : ℕ) → Has found v ⊎ IsWithout v t

-- each variable of the types is in the list
abbrev pub AreKnown : List Row → List Ty → List ℕ → Type 0
AreKnown rows [] found = ⊤
AreKnown rows (ty ∷ tys) found = Knows found (tree_in rows (ty_shape ty)) × AreKnown rows tys found

-- the list after a visit
abbrev pub collect_visit : Terms → Visit → List ℕ → List ℕ
collect_visit terms (Enter h) found = collect (tree_in terms.rows (handle_shape h)) found
collect_visit terms (Leave ty) found = found

-- the list after the pending visits, of which the last is made first
abbrev pub collect_pending : Terms → List Visit → List ℕ → List ℕ
collect_pending terms [] found = found
collect_pending terms (v ∷ vs) found = collect_visit terms v (collect_pending terms vs found)

-- a visit may be made when these variables were found: the row is there, or the type's variables are among them
abbrev pub IsGood : Terms → Visit → List ℕ → Type 0
IsGood terms (Enter h) found = h.number < size terms.rows (term_table h.table)
IsGood terms (Leave ty) found = Knows found (tree_in terms.rows (ty_shape ty))

-- each pending visit may be made when those after it in the list were made
abbrev pub AreGood : Terms → List Visit → List ℕ → Type 0
AreGood terms [] found = ⊤
AreGood terms (v ∷ vs) found = IsGood terms v (collect_pending terms vs found) × AreGood terms vs found

-- the later visits are the earlier ones, and before these some that change the list in this way
pub record Pushes (terms : Terms) (old : List Visit) (change : List ℕ → List ℕ) (new : List Visit) : Type 0 where
  pub good : (found : List ℕ) → AreGood terms old (change found) → AreGood terms new found
  pub all : (found : List ℕ) → collect_pending terms new found ≡ collect_pending terms old (change found)
