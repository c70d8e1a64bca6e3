-- A memo of resolved bindings.
use Rattle.std.specs.Prelude.{◌≡◌, ◌⊎◌, ℕ, zero, suc, Contains, List, [], ◌∷◌, Option, Some, None}
use Rattle.tt_kinds.specs.Tree.{Depth, Tree}
use Rattle.tt_kinds.specs.Handle.{Ty}
use Rattle.tt_interner.specs.Owned.{IsOwned}
use Rattle.tt_interner.specs.Stored.{Terms}
use Rattle.unify.specs.Substitution.{IsWithout}
use Rattle.unify.specs.Bindings.{table_shape, stored, values}

-- the entries with this type as the variable's entry, and as many more entries as that takes
abbrev pub put : List (Option Ty) → ℕ → Ty → List (Option Ty)
put [] zero t = Some t ∷ []
put [] (suc v) t = None ∷ put [] v t
put (x ∷ xs) zero t = Some t ∷ xs
put (x ∷ xs) (suc v) t = x ∷ put xs v t

-- the entries that pairs of a variable and its type are
abbrev pub entries_in : List (ℕ × Ty) → List (Option Ty)
entries_in [] = []
entries_in (p ∷ ps) = put (entries_in ps) p.0 p.1

-- a memo of resolved bindings: it has some of those that the table has, and no others
pub record Settles (terms : Terms) (entries memo : List (Option Ty)) : Type 0 where
  pub owned : IsOwned table_shape terms memo
  pub settled : (v : ℕ) (r : Tree Depth) → stored terms memo v ≡ Some r → values terms entries v ≡ Some r

-- each variable in the tree is as the memo has it
abbrev pub IsReady : Terms → List (Option Ty) → List (Option Ty) → Tree Depth → Type 0
IsReady terms entries memo t = (v : ℕ) → (stored terms memo v ≡ values terms entries v) ⊎ IsWithout v t

-- the listed variables are as the memo has them
abbrev pub AreSettled : Terms → List (Option Ty) → List (Option Ty) → List ℕ → Type 0
AreSettled terms entries memo vs = (v : ℕ) → Contains vs v → stored terms memo v ≡ values terms entries v

-- each variable in what the variable is bound to is as the memo has it
abbrev pub IsReadyAt : Terms → List (Option Ty) → List (Option Ty) → ℕ → Type 0
IsReadyAt terms entries memo v = (t : Tree Depth) → stored terms entries v ≡ Some t → IsReady terms entries memo t

-- the later memo has the variable, too, and each one that the memo had
pub record IsSettledTo (terms new : Terms) (entries memo later : List (Option Ty)) (v : ℕ) : Type 0 where
  pub settles : Settles new entries later
  pub own : stored new later v ≡ values new entries v
  pub kept : (u : ℕ) → stored terms memo u ≡ values terms entries u → stored new later u ≡ values new entries u
