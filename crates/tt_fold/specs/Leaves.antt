-- Trees with other trees in the places of their leaves.
use Rattle.std.specs.Prelude.{ℕ, suc}
use Rattle.tt_kinds.specs.Label.{Name, Sort, Entry}
use Rattle.tt_kinds.specs.Tree.{Tree, param, bound, region, term, node, binder, Forest, none, also}

module _ {I J : Type 0} (variable : ℕ → Sort → I → Entry Name → Tree J) (parameter : ℕ → Sort → ℕ → Name → Tree J) where
  abbrev mutual
    -- the tree, which is under k binders, with each bound variable and each parameter replaced by a tree
    pub with_leaves : ℕ → Tree I → Tree J
    with_leaves k (param s i name) = parameter k s i name
    with_leaves k (bound s d e) = variable k s d e
    with_leaves k (region r) = region r
    with_leaves k (term l ts) = term l (with_leaves_all k ts)
    with_leaves k (node l ts) = node l (with_leaves_all k ts)
    with_leaves k (binder vs t) = binder vs (with_leaves (suc k) t)

    pub with_leaves_all : ℕ → Forest I → Forest J
    with_leaves_all k none = none
    with_leaves_all k (also t ts) = also (with_leaves k t) (with_leaves_all k ts)

-- a bound variable with another index
abbrev pub reindexed : {I J : Type 0} → (ℕ → I → J) → ℕ → Sort → I → Entry Name → Tree J
reindexed index k s d e = bound s (index k d) e
