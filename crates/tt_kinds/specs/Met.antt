-- The regions of a tree that are neither bound in it nor canonical, and the tree with others in their places.
use Rattle.std.specs.Prelude.{ℕ, suc, List, [], ◌∷◌, ◌++◌, length, take, drop, nat_lt, if◌then◌else◌}
use Rattle.tt_kinds.specs.Label.{Sort, region_sort}
use Rattle.tt_kinds.specs.Tree.{Depth, at, canonical, Tree, param, bound, region, term, node, binder, Forest, none}
use Rattle.tt_kinds.specs.Tree.{also}

-- a region as it is written, and the number of binders above it
pub record Met : Type 0 where
  pub standing : Tree Depth
  pub under : ℕ

-- the leaf under k binders is met if it is a region
abbrev pub met_leaf : Sort → Tree Depth → ℕ → List Met
met_leaf region_sort t k = record { standing = t; under = k } ∷ []
met_leaf _ t k = []

-- the bound leaf under k binders is met if it is a region that none of them binds and that isn't canonical
abbrev pub met_bound : Sort → Depth → Tree Depth → ℕ → List Met
met_bound s (at d) t k = if nat_lt d k then [] else met_leaf s t k
met_bound s canonical t k = []

abbrev mutual
  -- the regions met in a tree under k binders, from front to back
  pub met : ℕ → Tree Depth → List Met
  met k (param s i name) = met_leaf s (param s i name) k
  met k (bound s d e) = met_bound s d (bound s d e) k
  met k (region r) = met_leaf region_sort (region r) k
  met k (term l ts) = met_all k ts
  met k (node l ts) = met_all k ts
  met k (binder vs t) = met (suc k) t

  pub met_all : ℕ → Forest Depth → List Met
  met_all k none = []
  met_all k (also t ts) = met k t ++ met_all k ts

-- the first answer if the leaf is met and there is an answer, and otherwise the leaf
abbrev pub placed_leaf : List Met → Tree Depth → List (Tree Depth) → Tree Depth
placed_leaf [] t answers = t
placed_leaf (m ∷ ms) t [] = t
placed_leaf (m ∷ ms) t (a ∷ answers) = a

abbrev mutual
  -- the tree under k binders with the regions met in it replaced, one after the other, by the answers, unshifted
  pub placed : ℕ → Tree Depth → List (Tree Depth) → Tree Depth
  placed k (param s i name) answers = placed_leaf (met k (param s i name)) (param s i name) answers
  placed k (bound s d e) answers = placed_leaf (met k (bound s d e)) (bound s d e) answers
  placed k (region r) answers = placed_leaf (met k (region r)) (region r) answers
  placed k (term l ts) answers = term l (placed_all k ts answers)
  placed k (node l ts) answers = node l (placed_all k ts answers)
  placed k (binder vs t) answers = binder vs (placed (suc k) t answers)

  pub placed_all : ℕ → Forest Depth → List (Tree Depth) → Forest Depth
  placed_all k none answers = none
  placed_all k (also t ts) answers =
      also (placed k t (take (length (met k t)) answers)) (placed_all k ts (drop (length (met k t)) answers))
