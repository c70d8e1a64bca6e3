-- The outer exclusive binder: how it falls under binders, and what a shift leaves alone.
use Rattle.std.proofs.Common.{inl, inr, ◌≡◌, ℕ, suc, ◌+◌, ◌-◌, ◌<◌, ◌≤◌, refl, ap, ◌∙◌, arith, add-suc}
use Rattle.std.specs.Prelude.{⊤}
use Rattle.std.proofs.lemmas.Bool.{cases_lt}
use Rattle.tt_kinds.specs.Tree.{Depth, at, canonical, Tree, param, bound, region, term, node, binder, Forest, none}
use Rattle.tt_kinds.specs.Tree.{also, Each, Each_all}
use Rattle.tt_kinds.specs.Reading.{place, keep, read, read_all, reach, greatest_reach, greatest_reach_all, outer_binder}
use Rattle.tt_kinds.specs.Plain.{shifted, shift_tree}
use Rattle.tt_kinds.proofs.RebuildLaws.{rebuild-same, Each-always, Each-then, rebuild-nothing}
use Rattle.tt_kinds.proofs.ReadingLaws.{place-own, place-outer, shifted-own, shifted-outer}

-- a variable reaches n binders less far from n binders further in
reach-deeper : (n k : ℕ) (d : Depth) → reach (place (n + k) d) ≡ reach (place k d) - n
reach-deeper n k (at d) = elim (cases_lt d k) [ inl h ↦ inside h | inr h ↦ elim (cases_lt d (n + k)) [ inl g ↦ between h g | inr g ↦ outside h g ] ]
  where
    inside : d < k → reach (place (n + k) (at d)) ≡ reach (place k (at d)) - n
    inside h = let deeper : d < n + k = omega arith in rw (place-own k d h, place-own (n + k) d deeper) (omega arith)

    between : k ≤ d → d < n + k → reach (place (n + k) (at d)) ≡ reach (place k (at d)) - n
    between h g = rw (place-outer k d h, place-own (n + k) d g) (omega arith)

    outside : k ≤ d → n + k ≤ d → reach (place (n + k) (at d)) ≡ reach (place k (at d)) - n
    outside h g = rw (place-outer k d h, place-outer (n + k) d g) (omega arith)
reach-deeper n k canonical = omega arith

mutual
  -- a tree reaches n binders less far from n binders further in
  pub greatest_reach-deeper : (n k : ℕ) (t : Tree Depth) → greatest_reach (read (n + k) t) ≡ greatest_reach (read k t) - n
  greatest_reach-deeper n k (param s i name) = omega arith
  greatest_reach-deeper n k (bound s d e) = reach-deeper n k d
  greatest_reach-deeper n k (region r) = omega arith
  greatest_reach-deeper n k (term l ts) = greatest_reach_all-deeper n k ts
  greatest_reach-deeper n k (node l ts) = greatest_reach_all-deeper n k ts
  greatest_reach-deeper n k (binder vs t) = rw (← add-suc n k) (greatest_reach-deeper n (suc k) t)

  pub greatest_reach_all-deeper : (n k : ℕ) (ts : Forest Depth) → greatest_reach_all (read_all (n + k) ts) ≡ greatest_reach_all (read_all k ts) - n
  greatest_reach_all-deeper n k none = omega arith
  greatest_reach_all-deeper n k (also t ts) =
      let first : greatest_reach (read (n + k) t) ≡ greatest_reach (read k t) - n = greatest_reach-deeper n k t in
      let rest : greatest_reach_all (read_all (n + k) ts) ≡ greatest_reach_all (read_all k ts) - n = greatest_reach_all-deeper n k ts in
      omega arith

-- the index points to one of the first b binders
abbrev pub IsBelow : ℕ → Depth → Type 0
IsBelow b (at d) = d < b
IsBelow b canonical = ⊤

-- the index of a variable that does not reach past m binders
pub index-below : (m k : ℕ) (d : Depth) → reach (place k d) ≤ m → IsBelow (k + m) d
index-below m k (at d) h = elim (cases_lt d k) [ inl g ↦ omega arith | inr g ↦ outside g ]
  where
    outside : k ≤ d → d < k + m
    outside g = let low : suc (d - k) ≤ m = rw (place-outer k d g) at h in omega arith
index-below m k canonical h = tt

mutual
  -- each index of a tree that does not reach past m binders
  pub each-below : (m k : ℕ) (t : Tree Depth) → greatest_reach (read k t) ≤ m → Each (λ j d. IsBelow (j + m) d) (λ j s i name. ⊤) k t
  each-below m k (param s i name) h = tt
  each-below m k (bound s d e) h = index-below m k d h
  each-below m k (region r) h = tt
  each-below m k (term l ts) h = each_all-below m k ts h
  each-below m k (node l ts) h = each_all-below m k ts h
  each-below m k (binder vs t) h = each-below m (suc k) t h

  pub each_all-below : (m k : ℕ) (ts : Forest Depth) → greatest_reach_all (read_all k ts) ≤ m → Each_all (λ j d. IsBelow (j + m) d) (λ j s i name. ⊤) k ts
  each_all-below m k none h = tt
  each_all-below m k (also t ts) h = (each-below m k t (omega arith), each_all-below m k ts (omega arith))

-- a shift leaves alone what does not reach past the binders above it
pub shift_tree-closed : (k n : ℕ) (t : Tree Depth) → greatest_reach (read k t) ≡ 0 → shift_tree k n t ≡ t
shift_tree-closed k n t h =
    rebuild-same (shifted n) (λ j d. d) keep keep k t (Each-then _ _ _ _ still (λ j s i name x. refl) k t (each-below 0 k t (omega arith)))
    ∙ rebuild-nothing k t
  where
    still : (j : ℕ) (d : Depth) → IsBelow (j + 0) d → shifted n j d ≡ d
    still j (at d) g = let low : d < j = omega arith in shifted-own n j d low
    still j canonical g = refl

-- the same by the outer binder that is kept with a tree
pub shift_tree-low : (k n : ℕ) (t : Tree Depth) → outer_binder t ≤ k → shift_tree k n t ≡ t
shift_tree-low k n t h = shift_tree-closed k n t none_left
  where
    none_left : greatest_reach (read k t) ≡ 0
    none_left = let deeper : greatest_reach (read (k + 0) t) ≡ greatest_reach (read 0 t) - k = greatest_reach-deeper k 0 t in
        let here : k + 0 ≡ k = omega arith in let low : greatest_reach (read 0 t) ≤ k = h in (rw here at deeper) ∙ (omega arith)

-- a shift by nothing
pub shift_tree-zero : (k : ℕ) (t : Tree Depth) → shift_tree k 0 t ≡ t
shift_tree-zero k t = rebuild-same (shifted 0) (λ j d. d) keep keep k t (Each-always _ _ still (λ j s i name. refl) k t) ∙ rebuild-nothing k t
  where
    still : (j : ℕ) (d : Depth) → shifted 0 j d ≡ d
    still j (at d) = elim (cases_lt d j) [ inl h ↦ shifted-own 0 j d h | inr h ↦ shifted-outer 0 j d h ∙ ap at (omega arith) ]
    still j canonical = refl
