-- Distinct items of lists, and the places of types.
use Rattle.std.proofs.Common.{◌≡◌, ℕ, zero, suc, ◌+◌, ◌≤◌, inl, inr, ◌⊎◌, List, [], ◌∷◌, ◌++◌, length, map, true, ◌&&◌}
use Rattle.std.proofs.Common.{ltb, refl, sym, ap, arith}
use Rattle.tt_kinds.specs.Label.{is_type}
use Rattle.tt_kinds.specs.Tree.{Depth, Tree, Forest, param, bound, region, term, node, binder, none, also}
use Rattle.tt_kinds.specs.Reading.{outer_binder}
use Rattle.tt_kinds.specs.Param.{holds_param_among}
use Rattle.tt_kinds.specs.Count.{TypeAt, type_if, generic_types, generic_types_among, moving_types, moving_types_among}
use Rattle.tt_fold.specs.Places.{IsIn, AreDistinct, CountsPairs, IsPlaceIn, IsPlaceAmong}

module _ {A : Type 0} where
  -- what is in two lists together is in the first or in the second
  pub IsIn-append : (x : A) (xs ys : List A) → IsIn x (xs ++ ys) → IsIn x xs ⊎ IsIn x ys
  IsIn-append x [] ys h = inr h
  IsIn-append x (y ∷ xs) ys (inl e) = inl (inl e)
  IsIn-append x (y ∷ xs) ys (inr h) = elim (IsIn-append x xs ys h) [ inl a ↦ inl (inr a) | inr b ↦ inr b ]

  -- what is in the first of two lists is in both together
  pub IsIn-left : (x : A) (xs ys : List A) → IsIn x xs → IsIn x (xs ++ ys)
  IsIn-left x [] ys h = absurd h
  IsIn-left x (y ∷ xs) ys (inl e) = inl e
  IsIn-left x (y ∷ xs) ys (inr h) = inr (IsIn-left x xs ys h)

  -- what is in the second of two lists is in both together
  pub IsIn-right : (x : A) (xs ys : List A) → IsIn x ys → IsIn x (xs ++ ys)
  IsIn-right x [] ys h = h
  IsIn-right x (y ∷ xs) ys h = inr (IsIn-right x xs ys h)

  -- the one item of a list
  pub IsIn-only : (x y : A) → IsIn x (y ∷ []) → x ≡ y
  IsIn-only x y (inl e) = e
  IsIn-only x y (inr h) = absurd h

  -- distinct items stay distinct with a new one behind them
  pub AreDistinct-last : (xs : List A) (x : A) → AreDistinct xs → (IsIn x xs → ⊥) → AreDistinct (xs ++ x ∷ [])
  AreDistinct-last [] x d new = (λ h. h, tt)
  AreDistinct-last (y ∷ xs) x d new = (
    λ h. elim (IsIn-append y xs (x ∷ []) h) [ inl a ↦ d.0 a | inr last ↦ new (inl (sym (IsIn-only y x last))) ],
    AreDistinct-last xs x d.1 (λ h. new (inr h)),
  )

  -- the list without one of its items
  without : (x : A) (ys : List A) → IsIn x ys → List A
  without x [] h = []
  without x (y ∷ ys) (inl e) = ys
  without x (y ∷ ys) (inr h) = y ∷ without x ys h

  length-without : (x : A) (ys : List A) (h : IsIn x ys) → length ys ≡ suc (length (without x ys h))
  unfolding without
  length-without x [] h = absurd h
  length-without x (y ∷ ys) (inl e) = omega arith
  length-without x (y ∷ ys) (inr h) = omega (arith, length-without x ys h)

  IsIn-without : (x z : A) (ys : List A) (h : IsIn x ys) → IsIn z ys → (z ≡ x → ⊥) → IsIn z (without x ys h)
  unfolding without
  IsIn-without x z [] h g other = absurd h
  IsIn-without x z (y ∷ ys) (inl e) (inl f) other = absurd (other (rw (f, e) refl))
  IsIn-without x z (y ∷ ys) (inl e) (inr g) other = g
  IsIn-without x z (y ∷ ys) (inr h) (inl f) other = inl f
  IsIn-without x z (y ∷ ys) (inr h) (inr g) other = inr (IsIn-without x z ys h g other)

  -- distinct items of a list are no more than its items
  pub length-distinct : (xs ys : List A) → AreDistinct xs → ((x : A) → IsIn x xs → IsIn x ys) → length xs ≤ length ys
  length-distinct [] ys d f = omega arith
  length-distinct (x ∷ xs) ys d f =
      let place = f x (inl refl) in
      let fewer = length-distinct xs (without x ys place) d.1 (λ z h. IsIn-without x z ys place (f z (inr h)) (λ e. d.0 (rw e at h))) in
      omega (arith, fewer, length-without x ys place)

-- if an item is in a list, its image is in the list of images
pub IsIn-map : {A B : Type 0} (f : A → B) (x : A) (xs : List A) → IsIn x xs → IsIn (f x) (map f xs)
IsIn-map f x [] h = absurd h
IsIn-map f x (y ∷ xs) (inl e) = inl (ap f e)
IsIn-map f x (y ∷ xs) (inr h) = inr (IsIn-map f x xs h)

-- a count of distinct places is none of more than all places
pub pairs_few : (among : List TypeAt) (before after : ℕ) → CountsPairs among before after → after ≤ before + length among
pairs_few among before after n = let fewer = length-distinct n.pairs among n.distinct n.each in omega (arith, n.few, fewer)

-- no count is one of any places
pub pairs_none : (among : List TypeAt) (n : ℕ) → CountsPairs among n n
pairs_none among n = record { pairs = []; distinct = tt; each = λ p h. absurd h; few = omega arith }

abbrev mutual
  -- how many stored terms a tree has
  pub size : Tree Depth → ℕ
  size (param s i name) = zero
  size (bound s d e) = zero
  size (region r) = zero
  size (term l ts) = suc (size_all ts)
  size (node l ts) = size_all ts
  size (binder vs t) = size t

  -- the same for trees in order
  pub size_all : Forest Depth → ℕ
  size_all none = zero
  size_all (also t ts) = size t + size_all ts

mutual
  size-place : (p : TypeAt) (k : ℕ) (t : Tree Depth) → IsPlaceIn p k t → size p.standing ≤ size t
  size-place p k (param s i name) h = absurd h
  size-place p k (bound s d e) h = absurd h
  size-place p k (region r) h = absurd h
  size-place p k (term l ts) (inl e) = let same : size p.standing ≡ suc (size_all ts) = ap (λ q. size q.standing) e in omega arith
  size-place p k (term l ts) (inr h) = let le = size_all-place p k ts h in omega arith
  size-place p k (node l ts) h = size_all-place p k ts h
  size-place p k (binder vs t) h = size-place p (suc k) t h

  size_all-place : (p : TypeAt) (k : ℕ) (ts : Forest Depth) → IsPlaceAmong p k ts → size p.standing ≤ size_all ts
  size_all-place p k none h = absurd h
  size_all-place p k (also t ts) (inl h) = let le = size-place p k t h in omega arith
  size_all-place p k (also t ts) (inr h) = let le = size_all-place p k ts h in omega arith

-- a place inside a term, and not its own
abbrev pub IsPlaceInside : TypeAt → ℕ → Tree Depth → Type 0
IsPlaceInside p k (term l ts) = IsPlaceAmong p k ts
IsPlaceInside p k _ = ⊥

-- a term doesn't occur inside itself
pub inside-smaller : (k j : ℕ) (t : Tree Depth) → IsPlaceInside (record { standing = t; under = j }) k t → ⊥
inside-smaller k j (term l ts) h = let le = size_all-place (record { standing = term l ts; under = j }) k ts h in omega arith
inside-smaller k j (param s i name) h = h
inside-smaller k j (bound s d e) h = h
inside-smaller k j (region r) h = h
inside-smaller k j (node l ts) h = h
inside-smaller k j (binder vs t) h = h

-- a place inside a term is one of the places in the term
pub place-inside : (p : TypeAt) (k : ℕ) (t : Tree Depth) → IsPlaceInside p k t → IsPlaceIn p k t
place-inside p k (term l ts) h = inr h
place-inside p k (param s i name) h = absurd h
place-inside p k (bound s d e) h = absurd h
place-inside p k (region r) h = absurd h
place-inside p k (node l ts) h = absurd h
place-inside p k (binder vs t) h = absurd h

-- a type that occurs in a tree and passes the test of a list of its places is in the list
abbrev pub IsGeneric : Tree Depth → Type 0
IsGeneric (term l ts) = (is_type l && holds_param_among ts) ≡ true
IsGeneric _ = ⊥

abbrev pub IsMoving : ℕ → Tree Depth → Type 0
IsMoving k (term l ts) = (is_type l && ltb k (outer_binder (term l ts))) ≡ true
IsMoving k _ = ⊥

mutual
  -- the list of a tree's types with parameters has each place of such a type in the tree
  pub generic_types-have : (p : TypeAt) (k : ℕ) (t : Tree Depth) → IsPlaceIn p k t → IsGeneric p.standing → IsIn p (generic_types k t)
  generic_types-have p k (param s i name) h g = absurd h
  generic_types-have p k (bound s d e) h g = absurd h
  generic_types-have p k (region r) h g = absurd h
  generic_types-have p k (term l ts) (inl e) g = let yes = rw e at g in rw yes (inl e)
  generic_types-have p k (term l ts) (inr h) g = IsIn-right p (type_if _ (term l ts) k) (generic_types_among k ts) (generic_types_among-have p k ts h g)
  generic_types-have p k (node l ts) h g = generic_types_among-have p k ts h g
  generic_types-have p k (binder vs t) h g = generic_types-have p (suc k) t h g

  generic_types_among-have : (p : TypeAt) (k : ℕ) (ts : Forest Depth) → IsPlaceAmong p k ts → IsGeneric p.standing → IsIn p (generic_types_among k ts)
  generic_types_among-have p k none h g = absurd h
  generic_types_among-have p k (also t ts) (inl h) g = IsIn-left p (generic_types k t) (generic_types_among k ts) (generic_types-have p k t h g)
  generic_types_among-have p k (also t ts) (inr h) g = IsIn-right p (generic_types k t) (generic_types_among k ts) (generic_types_among-have p k ts h g)

mutual
  -- the list of a tree's types with a variable to be shifted has each place of such a type in the tree
  pub moving_types-have : (p : TypeAt) (k : ℕ) (t : Tree Depth) → IsPlaceIn p k t → IsMoving p.under p.standing → IsIn p (moving_types k t)
  moving_types-have p k (param s i name) h g = absurd h
  moving_types-have p k (bound s d e) h g = absurd h
  moving_types-have p k (region r) h g = absurd h
  moving_types-have p k (term l ts) (inl e) g = let yes = rw e at g in rw yes (inl e)
  moving_types-have p k (term l ts) (inr h) g = IsIn-right p (type_if _ (term l ts) k) (moving_types_among k ts) (moving_types_among-have p k ts h g)
  moving_types-have p k (node l ts) h g = moving_types_among-have p k ts h g
  moving_types-have p k (binder vs t) h g = moving_types-have p (suc k) t h g

  moving_types_among-have : (p : TypeAt) (k : ℕ) (ts : Forest Depth) → IsPlaceAmong p k ts → IsMoving p.under p.standing → IsIn p (moving_types_among k ts)
  moving_types_among-have p k none h g = absurd h
  moving_types_among-have p k (also t ts) (inl h) g = IsIn-left p (moving_types k t) (moving_types_among k ts) (moving_types-have p k t h g)
  moving_types_among-have p k (also t ts) (inr h) g = IsIn-right p (moving_types k t) (moving_types_among k ts) (moving_types_among-have p k ts h g)
