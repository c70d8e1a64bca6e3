-- Regions met, and others placed for them.
use Rattle.std.proofs.Common.{◌≡◌, ℕ, suc, List, [], ◌∷◌, ◌++◌, length, refl, ap, ◌∙◌}
use Rattle.std.specs.Prelude.{map, Bool, true, false, if◌then◌else◌, nat_lt}
use Rattle.std.proofs.Math.Seq.{take-append_seam, drop-append_seam}
use Rattle.std.proofs.lemmas.List.{length-map}
use Rattle.tt_kinds.specs.Label.{Sort, region_sort, type_sort, const_sort}
use Rattle.tt_kinds.specs.Tree.{Depth, at, canonical, Tree, param, bound, region, term, node, binder, Forest, none}
use Rattle.tt_kinds.specs.Tree.{also}
use Rattle.tt_kinds.specs.Met.{Met, met_leaf, met_bound, met, met_all, placed_leaf, placed, placed_all}

-- the answers for a tree and for those after it, one list after the other
pub placed_all-append : (k : ℕ) (t : Tree Depth) (ts : Forest Depth) (xs ys : List (Tree Depth)) → length xs ≡ length (met k t) →
    placed_all k (also t ts) (xs ++ ys) ≡ also (placed k t xs) (placed_all k ts ys)
placed_all-append k t ts xs ys e = rw (← e, take-append_seam xs ys, drop-append_seam xs ys)

-- the regions as they are written
abbrev pub standing_regions : List Met → List (Tree Depth)
standing_regions ms = map (λ m. m.standing) ms

standing_leaf : (s : Sort) (k : ℕ) (t : Tree Depth) → placed_leaf (met_leaf s t k) t (standing_regions (met_leaf s t k)) ≡ t
standing_leaf region_sort k t = refl
standing_leaf type_sort k t = refl
standing_leaf const_sort k t = refl

standing_bound : (s : Sort) (k : ℕ) (d : Depth) (t : Tree Depth) →
    placed_leaf (met_bound s d t k) t (standing_regions (met_bound s d t k)) ≡ t
standing_bound s k (at d) t = chosen (nat_lt d k)
  where
    chosen : (b : Bool) → let ms = if b then [] else met_leaf s t k in placed_leaf ms t (standing_regions ms) ≡ t
    chosen true = refl
    chosen false = standing_leaf s k t
standing_bound s k canonical t = refl

map-append : {X Y : Type 0} (f : X → Y) (xs ys : List X) → map f (xs ++ ys) ≡ map f xs ++ map f ys
map-append f [] ys = refl
map-append f (x ∷ xs) ys = ap (◌∷◌ (f x)) (map-append f xs ys)

mutual
  -- the regions that were met, placed again, give the tree
  pub placed-standing : (k : ℕ) (t : Tree Depth) → placed k t (standing_regions (met k t)) ≡ t
  placed-standing k (param s i name) = standing_leaf s k (param s i name)
  placed-standing k (bound s d e) = standing_bound s k d (bound s d e)
  placed-standing k (region r) = refl
  placed-standing k (term l ts) = ap (term l) (placed_all-standing k ts)
  placed-standing k (node l ts) = ap (node l) (placed_all-standing k ts)
  placed-standing k (binder vs t) = ap (binder vs) (placed-standing (suc k) t)

  pub placed_all-standing : (k : ℕ) (ts : Forest Depth) → placed_all k ts (standing_regions (met_all k ts)) ≡ ts
  placed_all-standing k none = refl
  placed_all-standing k (also t ts) =
      ap (placed_all k (also t ts)) (map-append (λ m. m.standing) (met k t) (met_all k ts))
      ∙ placed_all-append k t ts (standing_regions (met k t)) (standing_regions (met_all k ts)) (length-map (met k t) (λ m. m.standing))
      ∙ joined (placed-standing k t) (placed_all-standing k ts)
    where
      joined : {a : Tree Depth} {b : Forest Depth} → a ≡ t → b ≡ ts → also a b ≡ also t ts
      joined p q = cc
