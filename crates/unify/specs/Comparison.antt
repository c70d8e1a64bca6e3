-- A comparison of two types, which binds variables and notes pairs that are still to be made equal.
use Rattle.std.specs.Prelude.{◌≡◌, ◌≤◌, ◌⊎◌, ℕ, Contains, List, [], ◌∷◌, drop, length, Option, Some}
use Rattle.tt_kinds.specs.Tree.{Depth, Tree, none, also}
use Rattle.tt_kinds.specs.Parts.{child_in}
use Rattle.tt_kinds.specs.declared.table.TermTable.TheVariants.{Types}
use Rattle.tt_kinds.specs.Kinds.{ty_shape}
use Rattle.tt_kinds.specs.Handle.{Ty}
use Rattle.tt_interner.specs.Owned.{AreOwned, IsOwned}
use Rattle.tt_interner.specs.Stored.{Terms}
use Rattle.tt_fold.specs.Steps.{tree_in}
use Rattle.unify.specs.Substitution.{variable_in, Assignment, Solves}
use Rattle.unify.specs.Pairs.{pair_shape, child_trees, Equates, EquatesAll, EquatesTypes}
use Rattle.unify.specs.Triangular.{Pairs, Rests, Linked, HasParts, AreLinked, AreClosed, IsAcyclic, links}
use Rattle.unify.specs.Bindings.{table_shape, stored, Table, KeepsEarlier}
use Rattle.unify.specs.declared.pairs.Pair.{Pair}
use Rattle.unify.specs.declared.comparison.Compared.{Compared}

-- the children of the pair have these two trees
abbrev pub IsPairOf : Terms → Pair → Pairs
IsPairOf terms p t u = (child_trees terms p.left ≡ also t none) × (child_trees terms p.right ≡ also u none)

-- the two trees are those of one of the pairs
abbrev pub PendingIn : Terms → List Pair → Pairs
PendingIn terms [] t u = ⊥
PendingIn terms (p ∷ ps) t u = IsPairOf terms p t u ⊎ PendingIn terms ps t u

-- the loop came from `xs` and two types to `ys` and pending pairs: it only added entries and kept solutions, compared
-- pairs rest on their parts, and the two types are linked
pub record Compares (terms : Terms) (xs : List (Option Ty)) (left right : Ty) (ys : List (Option Ty)) (ps : List Pair)
    (compared : Pairs) : Type 0 where
  pub owned : IsOwned table_shape terms ys
  pub len : length ys ≡ length xs
  pub kept : (v : ℕ) (t : Tree Depth) → stored terms xs v ≡ Some t → stored terms ys v ≡ Some t
  pub keeps : (ρ : Assignment) → Solves ρ (stored terms xs) → EquatesTypes ρ terms left right
      → Solves ρ (stored terms ys) × EquatesAll ρ terms ps
  pub rests : Rests (stored terms ys) (PendingIn terms ps) compared
  pub link : Linked (stored terms ys) (PendingIn terms ps) compared (tree_in terms.rows (ty_shape left))
      (tree_in terms.rows (ty_shape right))

-- the two trees are those of one of the compared pairs
abbrev pub ComparedIn : Terms → List Compared → Pairs
ComparedIn terms [] t u = ⊥
ComparedIn terms (c ∷ cs) t u =
    ((t ≡ tree_in terms.rows (ty_shape c.left)) × (u ≡ tree_in terms.rows (ty_shape c.right))) ⊎ ComparedIn terms cs t u

-- no pair at all
abbrev pub NoPairs : Pairs
NoPairs t u = ⊥

-- the pair of two types
abbrev pub types_pair : Ty → Ty → Pair
types_pair left right = record { left = child_in Types left; right = child_in Types right }

-- the later table has the earlier bindings and perhaps further ones, whose variables it lists
pub record IsGrown (terms : Terms) (b later : Table) : Type 0 where
  pub owned : IsOwned table_shape terms later.entries
  pub len : length later.entries ≡ length b.entries
  pub kept : (v : ℕ) (t : Tree Depth) → stored terms b.entries v ≡ Some t → stored terms later.entries v ≡ Some t
  pub links : IsAcyclic (links (stored terms later.entries))
  pub closed : AreClosed (stored terms b.entries) → AreClosed (stored terms later.entries)
  pub earlier : KeepsEarlier b later
  pub noted : (v : ℕ) (t : Tree Depth) → stored terms later.entries v ≡ Some t → (stored terms b.entries v ≡ Some t)
      ⊎ ((k : ℕ) → k ≤ length b.bound → Contains (drop k later.bound) v)
  pub older : (k v : ℕ) → k ≤ length b.bound → Contains (drop k b.bound) v → Contains (drop k later.bound) v

-- the pair was taken: its children are linked now, and each solution that makes them equal is kept
pub record Takes (terms : Terms) (ys : List (Option Ty)) (rest : List Pair) (keys : List Compared) (p : Pair)
    (zs : List (Option Ty)) (ps : List Pair) (later : List Compared) : Type 0 where
  pub owned : AreOwned pair_shape terms ps
  pub others : (t u : Tree Depth) → PendingIn terms rest t u → PendingIn terms ps t u
  pub grows : (t u : Tree Depth) → ComparedIn terms keys t u → ComparedIn terms later t u
  pub children : AreLinked (stored terms zs) (PendingIn terms ps) (ComparedIn terms later)
      (child_trees terms p.left) (child_trees terms p.right)
  pub noted : (t u : Tree Depth) → ComparedIn terms later t u
      → ComparedIn terms keys t u ⊎ HasParts (stored terms zs) (PendingIn terms ps) (ComparedIn terms later) t u
  pub keeps : (ρ : Assignment) → Solves ρ (stored terms ys) → Equates ρ terms p → EquatesAll ρ terms rest
      → Solves ρ (stored terms zs) × EquatesAll ρ terms ps

-- how far a comparison of two types has come, which began with the first table
pub record IsComparing (terms : Terms) (first : Table) (left right : Ty) (b : Table) (ps : List Pair)
    (keys : List Compared) : Type 0 where
  pub compares : Compares terms first.entries left right b.entries ps (ComparedIn terms keys)
  pub owned : AreOwned pair_shape terms ps
  pub links : IsAcyclic (links (stored terms b.entries))
  pub closed : AreClosed (stored terms first.entries) → AreClosed (stored terms b.entries)
  pub earlier : KeepsEarlier first b
  pub noted : (v : ℕ) (t : Tree Depth) → stored terms b.entries v ≡ Some t
      → (stored terms first.entries v ≡ Some t) ⊎ Contains (drop (length first.bound) b.bound) v

-- a comparison of two types has come to its end, by some compared pairs
pub record HasCompared (terms : Terms) (first : Table) (left right : Ty) (b : Table) : Type 0 where
  pub keys : List Compared
  pub comparing : IsComparing terms first left right b [] keys

-- the variable is one of the two types, and this type is the other one
abbrev pub IsSideOf : Terms → Ty → Ty → ℕ → Ty → Type 0
IsSideOf terms l r v t =
    ((variable_in (tree_in terms.rows (ty_shape l)) ≡ Some v) × (t ≡ r))
    ⊎ ((variable_in (tree_in terms.rows (ty_shape r)) ≡ Some v) × (t ≡ l))
