-- Terms as trees, and the walks that every other definition is made of.
use Rattle.std.specs.Prelude.{ℕ, zero, suc, List, ⊤}
use Rattle.tt_kinds.specs.Label.{Name, Sort, VarKind, Entry, FreeRegion, Label}

-- the index of a variable as it is written: the number of binders between the variable and its own binder
pub data Depth : Type 0 where
  at : ℕ → Depth
  canonical : Depth

-- the index of a variable as it is read: its binder is the term's own or outside of the term, or a canonical query's
pub data Place : Type 0 where
  own : ℕ → Place
  outer : ℕ → Place
  apart : Place

mutual
  -- a term whose variables have indices of the type `I`
  pub data Tree (I : Type 0) : Type 0 where
    param : Sort → ℕ → Name → Tree I
    bound : Sort → I → Entry Name → Tree I
    region : FreeRegion Name → Tree I
    term : Label Name → Forest I → Tree I
    node : Label Name → Forest I → Tree I
    binder : List (VarKind Name) → Tree I → Tree I

  -- the children of a node, in order
  pub data Forest (I : Type 0) : Type 0 where
    none : Forest I
    also : Tree I → Forest I → Forest I

module _ {I : Type 0} where
  -- how many trees there are
  abbrev pub count_trees : Forest I → ℕ
  count_trees none = 0
  count_trees (also t ts) = suc (count_trees ts)

  -- the first n trees, or all if there are fewer
  abbrev pub take_trees : ℕ → Forest I → Forest I
  take_trees zero ts = none
  take_trees (suc n) none = none
  take_trees (suc n) (also t ts) = also t (take_trees n ts)

  -- the trees after the first n
  abbrev pub drop_trees : ℕ → Forest I → Forest I
  drop_trees zero ts = ts
  drop_trees (suc n) none = none
  drop_trees (suc n) (also t ts) = drop_trees n ts

module _ {I J : Type 0} (index : ℕ → I → J) (parameter : ℕ → Sort → ℕ → Name → Tree J) where
  abbrev mutual
    -- the tree, which is under k binders, with each index and each parameter replaced
    pub rebuild : ℕ → Tree I → Tree J
    rebuild k (param s i name) = parameter k s i name
    rebuild k (bound s d e) = bound s (index k d) e
    rebuild k (region r) = region r
    rebuild k (term l ts) = term l (rebuild_all k ts)
    rebuild k (node l ts) = node l (rebuild_all k ts)
    rebuild k (binder vs t) = binder vs (rebuild (suc k) t)

    pub rebuild_all : ℕ → Forest I → Forest J
    rebuild_all k none = none
    rebuild_all k (also t ts) = also (rebuild k t) (rebuild_all k ts)

module _ {I J : Type 0} (index : I → J) (parameter : Sort → ℕ → Name → Tree J) where
  abbrev mutual
    -- the tree with each index and each parameter replaced, in the same way at every depth
    pub replace : Tree I → Tree J
    replace (param s i name) = parameter s i name
    replace (bound s d e) = bound s (index d) e
    replace (region r) = region r
    replace (term l ts) = term l (replace_all ts)
    replace (node l ts) = node l (replace_all ts)
    replace (binder vs t) = binder vs (replace t)

    pub replace_all : Forest I → Forest J
    replace_all none = none
    replace_all (also t ts) = also (replace t) (replace_all ts)

module _ {I : Type 0} (of_index : ℕ → I → Type 0) (of_parameter : ℕ → Sort → ℕ → Name → Type 0) where
  abbrev mutual
    -- each index and each parameter of the tree, which is under k binders, meets its condition
    pub Each : ℕ → Tree I → Type 0
    Each k (param s i name) = of_parameter k s i name
    Each k (bound s d e) = of_index k d
    Each k (region r) = ⊤
    Each k (term l ts) = Each_all k ts
    Each k (node l ts) = Each_all k ts
    Each k (binder vs t) = Each (suc k) t

    pub Each_all : ℕ → Forest I → Type 0
    Each_all k none = ⊤
    Each_all k (also t ts) = Each k t × Each_all k ts
