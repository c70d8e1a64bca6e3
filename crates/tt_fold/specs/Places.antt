-- Types at places of a tree, and counts of distinct ones.
use Rattle.std.specs.Prelude.{◌≡◌, ◌⊎◌, ◌≤◌, ◌+◌, ℕ, suc, List, [], ◌∷◌, length, ⊤}
use Rattle.tt_kinds.specs.Count.{TypeAt}
use Rattle.tt_kinds.specs.Tree.{Depth, Tree, Forest, param, bound, region, term, node, binder, none, also}

-- x is one of the items
abbrev pub IsIn : {A : Type 0} → A → List A → Type 0
IsIn x [] = ⊥
IsIn x (y ∷ ys) = (x ≡ y) ⊎ IsIn x ys

-- no item occurs twice
abbrev pub AreDistinct : {A : Type 0} → List A → Type 0
AreDistinct [] = ⊤
AreDistinct (x ∷ xs) = (IsIn x xs → ⊥) × AreDistinct xs

-- A count grew by no more than the number of distinct places in the list: `pairs` are some of these places, each once,
-- and at least as many as the count grew by.
pub record CountsPairs (among : List TypeAt) (before after : ℕ) : Type 0 where
  pub pairs : List TypeAt
  pub distinct : AreDistinct pairs
  pub each : (p : TypeAt) → IsIn p pairs → IsIn p among
  pub few : after ≤ before + length pairs

abbrev mutual
  -- the stored term occurs, under this number of binders, in a tree under k binders
  pub IsPlaceIn : TypeAt → ℕ → Tree Depth → Type 0
  IsPlaceIn p k (param s i name) = ⊥
  IsPlaceIn p k (bound s d e) = ⊥
  IsPlaceIn p k (region r) = ⊥
  IsPlaceIn p k (term l ts) = (p ≡ record { standing = term l ts; under = k }) ⊎ IsPlaceAmong p k ts
  IsPlaceIn p k (node l ts) = IsPlaceAmong p k ts
  IsPlaceIn p k (binder vs t) = IsPlaceIn p (suc k) t

  pub IsPlaceAmong : TypeAt → ℕ → Forest Depth → Type 0
  IsPlaceAmong p k none = ⊥
  IsPlaceAmong p k (also t ts) = IsPlaceIn p k t ⊎ IsPlaceAmong p k ts
