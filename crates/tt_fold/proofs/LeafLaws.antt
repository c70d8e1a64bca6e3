-- Where a bound variable becomes one, trees for leaves are other indices.
use Rattle.std.proofs.Common.{◌≡◌, ℕ, suc, refl, ap}
use Rattle.tt_kinds.specs.Label.{Name, Sort}
use Rattle.tt_kinds.specs.Tree.{Depth, Tree, Forest, param, bound, region, term, node, binder, none, also, rebuild}
use Rattle.tt_kinds.specs.Tree.{rebuild_all}
use Rattle.tt_kinds.specs.Reading.{keep}
use Rattle.tt_kinds.specs.Plain.{shifted, shift_tree}
use Rattle.tt_fold.specs.Leaves.{with_leaves, with_leaves_all, reindexed}

ap2 : {A B C : Type 0} (f : A → B → C) {a a' : A} {b b' : B} → a ≡ a' → b ≡ b' → f a b ≡ f a' b'
ap2 f p q = cc

module _ (index : ℕ → Depth → Depth) (parameter : ℕ → Sort → ℕ → Name → Tree Depth) where
  mutual
    -- to replace variables by variables of other indices is to rebuild the tree with these indices
    pub with_leaves-rebuild : (k : ℕ) (t : Tree Depth) → with_leaves (reindexed index) parameter k t ≡ rebuild index parameter k t
    with_leaves-rebuild k (param s i name) = refl
    with_leaves-rebuild k (bound s d e) = refl
    with_leaves-rebuild k (region r) = refl
    with_leaves-rebuild k (term l ts) = ap (term l) (with_leaves_all-rebuild k ts)
    with_leaves-rebuild k (node l ts) = ap (node l) (with_leaves_all-rebuild k ts)
    with_leaves-rebuild k (binder vs t) = ap (binder vs) (with_leaves-rebuild (suc k) t)

    -- the same for trees in order
    pub with_leaves_all-rebuild : (k : ℕ) (ts : Forest Depth) → with_leaves_all (reindexed index) parameter k ts ≡ rebuild_all index parameter k ts
    with_leaves_all-rebuild k none = refl
    with_leaves_all-rebuild k (also t ts) = ap2 also (with_leaves-rebuild k t) (with_leaves_all-rebuild k ts)

-- so moved variables are a shift
pub moved-shift : (n k : ℕ) (t : Tree Depth) → with_leaves (reindexed (shifted n)) keep k t ≡ shift_tree k n t
moved-shift n k t = with_leaves-rebuild (shifted n) keep k t
