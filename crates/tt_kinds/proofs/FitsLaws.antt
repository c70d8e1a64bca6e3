-- Which readings fit, and which do not.
use Rattle.std.proofs.Common.{inl, inr, ◌≡◌, ℕ, suc, ◌+◌, ◌-◌, ◌<◌, ◌≤◌, arith, add-suc}
use Rattle.std.specs.Prelude.{⊤}
use Rattle.std.proofs.lemmas.Bool.{cases_lt}
use Rattle.tt_kinds.specs.Tree.{Depth, at, canonical, Place, own, outer, apart, Tree, param, bound, region, term, node}
use Rattle.tt_kinds.specs.Tree.{binder, Forest, none, also, Each, Each_all}
use Rattle.tt_index.specs.Greatest.{greatest}
use Rattle.tt_kinds.specs.Reading.{place, read, read_all, moved, move, move_all, FitsAt, FitsUnder, FitsUnder_all}
use Rattle.tt_kinds.specs.Plain.{shift_tree}
use Rattle.tt_kinds.proofs.ReadingLaws.{place-outer, read-shift_tree-past}
use Rattle.tt_kinds.proofs.OuterLaws.{IsBelow}

module _ (n : ℕ) where
  FitsAt-moved : (k : ℕ) (p : Place) → FitsAt (n + k) p → FitsAt k (moved n p)
  FitsAt-moved k (own d) h = tt
  FitsAt-moved k (outer j) h = omega arith
  FitsAt-moved k apart h = tt

  mutual
    -- what fits under n binders more fits when it is moved by n
    pub FitsUnder-move : (k : ℕ) (r : Tree Place) → FitsUnder (n + k) r → FitsUnder k (move n r)
    FitsUnder-move k (param s i name) h = tt
    FitsUnder-move k (bound s p e) h = FitsAt-moved k p h
    FitsUnder-move k (region r) h = tt
    FitsUnder-move k (term l rs) h = FitsUnder_all-move k rs h
    FitsUnder-move k (node l rs) h = FitsUnder_all-move k rs h
    FitsUnder-move k (binder vs r) h = (omega arith, FitsUnder-move (suc k) r (rw (← add-suc n k) at h.1))

    pub FitsUnder_all-move : (k : ℕ) (rs : Forest Place) → FitsUnder_all (n + k) rs → FitsUnder_all k (move_all n rs)
    FitsUnder_all-move k none h = tt
    FitsUnder_all-move k (also r rs) h = (FitsUnder-move k r h.0, FitsUnder_all-move k rs h.1)

-- an argument that fits under the binders above a parameter fits when it is shifted past them
pub FitsUnder-past : (k : ℕ) (t : Tree Depth) → FitsUnder k (read k (shift_tree 0 k t)) → FitsUnder 0 (move k (read 0 t))
FitsUnder-past k t h = let here : k ≡ k + 0 = omega arith in FitsUnder-move k 0 (read 0 t) (rw here at (rw (read-shift_tree-past k t) at h))

-- a variable that fits has an index below the greatest
index-fits : (k : ℕ) (d : Depth) → k ≤ greatest → FitsAt k (place k d) → IsBelow greatest d
index-fits k (at d) low h = elim (cases_lt d k) [ inl g ↦ omega arith | inr g ↦ outside g ]
  where
    outside : k ≤ d → d < greatest
    outside g = let fits : d - k + k < greatest = rw (place-outer k d g) at h in omega arith
index-fits k canonical low h = tt

mutual
  -- a tree that fits has all its indices below the greatest
  pub each-fits : (k : ℕ) (t : Tree Depth) → k ≤ greatest → FitsUnder k (read k t) → Each (λ j d. IsBelow greatest d) (λ j s i name. ⊤) k t
  each-fits k (param s i name) low h = tt
  each-fits k (bound s d e) low h = index-fits k d low h
  each-fits k (region r) low h = tt
  each-fits k (term l ts) low h = each_all-fits k ts low h
  each-fits k (node l ts) low h = each_all-fits k ts low h
  each-fits k (binder vs t) low h = each-fits (suc k) t (omega arith) h.1

  pub each_all-fits : (k : ℕ) (ts : Forest Depth) → k ≤ greatest → FitsUnder_all k (read_all k ts) → Each_all (λ j d. IsBelow greatest d) (λ j s i name. ⊤) k ts
  each_all-fits k none low h = tt
  each_all-fits k (also t ts) low h = (each-fits k t low h.0, each_all-fits k ts low h.1)
