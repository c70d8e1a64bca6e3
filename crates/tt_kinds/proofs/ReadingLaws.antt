-- Readings and shifts: a shift of the tree is a move of the reading, and the reading tells the tree.
use Rattle.std.proofs.Common.{inl, inr, ◌≡◌, ℕ, ◌+◌, ◌-◌, ◌<◌, ◌≤◌, refl, ap, sym, ◌∙◌, arith, add-zero}
use Rattle.std.proofs.lemmas.Bool.{cases_lt, lt-ltb, le-ltb}
use Rattle.tt_kinds.specs.Tree.{Depth, at, canonical, Place, own, outer, apart, Tree, param, rebuild, replace}
use Rattle.tt_kinds.specs.Reading.{place, keep, read, moved, move}
use Rattle.tt_kinds.specs.Plain.{shifted, shift_tree}
use Rattle.tt_kinds.proofs.RebuildLaws.{rebuild-anywhere, Each-always, rebuild-deeper, rebuild-nothing}
use Rattle.tt_kinds.proofs.RebuildLaws.{rebuild-joined, replace-rebuild, replace-replace}

-- a variable whose binder is among the k, and one whose binder is not
pub place-own : (k d : ℕ) → d < k → place k (at d) ≡ own d
place-own k d h = rw (lt-ltb d k h)

-- under k binders, an index of k or more is read as the outer number that is k less
pub place-outer : (k d : ℕ) → k ≤ d → place k (at d) ≡ outer (d - k)
place-outer k d h = rw (le-ltb d k h)

-- a shift keeps the index of a variable whose binder is among the k
pub shifted-own : (n k d : ℕ) → d < k → shifted n k (at d) ≡ at d
shifted-own n k d h = rw (lt-ltb d k h)

-- a shift by n adds n to an index that points past the k binders
pub shifted-outer : (n k d : ℕ) → k ≤ d → shifted n k (at d) ≡ at (n + d)
shifted-outer n k d h = rw (le-ltb d k h)

-- a shifted index is placed where the index is placed, and moved
place-shifted : (n k : ℕ) (d : Depth) → place k (shifted n k d) ≡ moved n (place k d)
place-shifted n k (at d) = elim (cases_lt d k) [ inl h ↦ inside h | inr h ↦ outside h ]
  where
    inside : d < k → place k (shifted n k (at d)) ≡ moved n (place k (at d))
    inside h = rw (shifted-own n k d h, place-own k d h)

    outside : k ≤ d → place k (shifted n k (at d)) ≡ moved n (place k (at d))
    outside h = let past : k ≤ n + d = omega arith in let there : n + d - k ≡ n + (d - k) = omega arith in
        rw (shifted-outer n k d h, place-outer k d h, place-outer k (n + d) past) (ap outer there)
place-shifted n k canonical = refl

-- shifting is plain moving
pub read-shift_tree : (n k : ℕ) (t : Tree Depth) → read k (shift_tree k n t) ≡ move n (read k t)
read-shift_tree n k t =
    rebuild-joined (shifted n) keep place keep (λ j d. moved n (place j d)) keep k t (Each-always _ _ (place-shifted n) (λ j s i name. refl) k t)
    ∙ sym (replace-rebuild place keep (moved n) param (λ j d. moved n (place j d)) keep k t (Each-always _ _ (λ j d. refl) (λ j s i name. refl) k t))

-- an index shifted past k binders is placed there as it was placed outside of them
place-past : (k j : ℕ) (d : Depth) → place (k + j) (shifted k j d) ≡ place j d
place-past k j (at d) = elim (cases_lt d j) [ inl h ↦ inside h | inr h ↦ outside h ]
  where
    inside : d < j → place (k + j) (shifted k j (at d)) ≡ place j (at d)
    inside h = let deeper : d < k + j = omega arith in rw (shifted-own k j d h, place-own j d h, place-own (k + j) d deeper)

    outside : j ≤ d → place (k + j) (shifted k j (at d)) ≡ place j (at d)
    outside h = let past : k + j ≤ k + d = omega arith in let there : k + d - (k + j) ≡ d - j = omega arith in
        rw (shifted-outer k j d h, place-outer j d h, place-outer (k + j) (k + d) past) (ap outer there)
place-past k j canonical = refl

-- shifted past k binders, a tree reads under them as it read outside of them
pub read-shift_tree-past : (k : ℕ) (t : Tree Depth) → read k (shift_tree 0 k t) ≡ read 0 t
read-shift_tree-past k t =
    ap (λ c. read c (shift_tree 0 k t)) (sym (add-zero k))
    ∙ rebuild-deeper place keep k 0 (shift_tree 0 k t)
    ∙ rebuild-joined (shifted k) keep (λ j. place (k + j)) keep place keep 0 t (Each-always _ _ (place-past k) (λ j s i name. refl) 0 t)

-- the index that a place was read from
abbrev index_at : ℕ → Place → Depth
index_at k (own d) = at d
index_at k (outer j) = at (j + k)
index_at k apart = canonical

index_at-place : (k : ℕ) (d : Depth) → index_at k (place k d) ≡ d
index_at-place k (at d) = elim (cases_lt d k) [ inl h ↦ inside h | inr h ↦ outside h ]
  where
    inside : d < k → index_at k (place k (at d)) ≡ at d
    inside h = rw (place-own k d h)

    outside : k ≤ d → index_at k (place k (at d)) ≡ at d
    outside h = let back : d - k + k ≡ d = omega arith in rw (place-outer k d h) (ap at back)
index_at-place k canonical = refl

-- the tree that a reading under k binders belongs to
abbrev tree_of : ℕ → Tree Place → Tree Depth
tree_of k r = rebuild index_at keep k r

tree_of-read : (k : ℕ) (t : Tree Depth) → tree_of k (read k t) ≡ t
tree_of-read k t =
    rebuild-joined place keep index_at keep (λ j d. d) keep k t (Each-always _ _ index_at-place (λ j s i name. refl) k t) ∙ rebuild-nothing k t

-- a reading belongs to one tree
pub read-injective : (k : ℕ) (t u : Tree Depth) → read k t ≡ read k u → t ≡ u
read-injective k t u e = sym (tree_of-read k t) ∙ ap (tree_of k) e ∙ tree_of-read k u

-- moves in turn are one move by the sum
pub move-move : (m n : ℕ) (r : Tree Place) → move m (move n r) ≡ move (m + n) r
move-move m n r = replace-replace (moved n) param (moved m) param (moved (m + n)) param r (Each-always _ _ (λ j. further) (λ j s i name. refl) 0 r)
  where
    further : (p : Place) → moved m (moved n p) ≡ moved (m + n) p
    further (own d) = refl
    further (outer j) = ap outer (omega arith)
    further apart = refl

-- the place n binders further in, if it is outside
abbrev moved_back : ℕ → Place → Place
moved_back n (own d) = own d
moved_back n (outer j) = outer (j - n)
moved_back n apart = apart

-- equal moves come from equal readings
pub move-injective : (n : ℕ) (r q : Tree Place) → move n r ≡ move n q → r ≡ q
move-injective n r q e = sym (there_and_back r) ∙ ap (replace (moved_back n) param) e ∙ there_and_back q
  where
    back : (p : Place) → moved_back n (moved n p) ≡ p
    back (own d) = refl
    back (outer j) = let same : n + j - n ≡ j = omega arith in ap outer same
    back apart = refl

    there_and_back : (r : Tree Place) → replace (moved_back n) param (move n r) ≡ r
    there_and_back r = replace-replace (moved n) param (moved_back n) param (λ p. p) param r (Each-always _ _ (λ j. back) (λ j s i name. refl) 0 r)
        ∙ sym (rebuild-anywhere (λ p. p) param 0 r) ∙ rebuild-nothing 0 r
