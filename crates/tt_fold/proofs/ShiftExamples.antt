-- Shifts of small types, and of types in which one type occurs at many places.
use Rattle.std.proofs.Common.{inl, inr, ◌≡◌, ◌⊎◌, ◌≤◌, ◌+◌, ℕ, zero, suc, List, [], ◌∷◌, ◌++◌, length, Bool, true}
use Rattle.std.proofs.Common.{false, nat_lt, refl, arith}
use Rattle.tt_index.specs.declared.numeric.IntTy.TheVariants as int
use Rattle.tt_index.specs.declared.qualifier.Mutability.TheVariants as mutability
use Rattle.tt_index.specs.declared.refusal.Refusal.TheVariants.{GreatestIndex}
use Rattle.tt_kinds.specs.declared.table.Table.TheVariants.{TypeLists}
use Rattle.tt_kinds.specs.Label.{Name, Sort, region_sort, anonymous, region_variable, int_type, ref_type, tuple_type}
use Rattle.tt_kinds.specs.Label.{type_label, list_label}
use Rattle.tt_kinds.specs.Tree.{Depth, at, Tree, bound, term, node, none, also, rebuild}
use Rattle.tt_kinds.specs.Reading.{read, move, outer_binder, Fits, keep}
use Rattle.tt_kinds.specs.Plain.{shifted, shift_tree}
use Rattle.tt_kinds.specs.Count.{TypeAt, type_if, moving_types}
use Rattle.tt_interner.specs.Stored.{Terms}
use Rattle.tt_fold.specs.Places.{IsIn, CountsPairs}
use Rattle.tt_fold.specs.Shift.{IsShiftRefusal}
use Rattle.tt_fold.proofs.PlaceLaws.{IsIn-append, IsIn-only, length-distinct}

-- the type `i32`, and a reference to it whose region is bound by the binder of this index
abbrev pub i32 : Tree Depth
i32 = term (type_label (int_type int.I32)) none

abbrev pub reference_at : ℕ → Tree Depth
reference_at d = term (type_label (ref_type mutability.«Not»))
    (also (bound region_sort (at d) (record { var = 0; kind = region_variable anonymous })) (also i32 none))

-- a shift by the greatest number leaves a type without variables as it is
closed_stays : shift_tree 0 4294967295 i32 ≡ i32
closed_stays = refl

-- shifted up to the last index, a reference fits
last_fits : (outer_binder (shift_tree 0 4294967039 (reference_at 0)) ≡ 4294967040) × Fits (move 4294967039 (read 0 (reference_at 0)))
last_fits = (refl, ((omega arith, (tt, tt))))

-- shifted further, a reference is refused with `GreatestIndex`
shift_too_far : (terms : Terms) → IsShiftRefusal terms 4294967295 (reference_at 0) GreatestIndex
shift_too_far terms h = omega (arith, h.0)

-- the pair of a type with itself
abbrev pub twice : Tree Depth → Tree Depth
twice t = term (type_label tuple_type) (also (node (list_label TypeLists) (also t (also t none))) none)

-- the type paired with itself, and each pair again, so many times: a type of twice as many places each time
pub paired : ℕ → Tree Depth → Tree Depth
paired zero t = t
paired (suc n) t = twice (paired n t)

-- the pairs in it under k binders, and then other types
pub pairs : ℕ → ℕ → Tree Depth → List TypeAt → List TypeAt
pairs zero k t rest = rest
pairs (suc n) k t rest = record { standing = paired (suc n) t; under = k } ∷ pairs n k t rest

-- n pairings make n pairs, before the other types
pub length-pairs : (n k : ℕ) (t : Tree Depth) (rest : List TypeAt) → length (pairs n k t rest) ≡ n + length rest
unfolding pairs
length-pairs zero k t rest = omega arith
length-pairs (suc n) k t rest = omega (arith, length-pairs n k t rest)

-- a pair's places are its own and those of its one type
in-twice : (xs ys : List TypeAt) (p : TypeAt) → IsIn p (xs ++ ((ys ++ (ys ++ [])) ++ [])) → IsIn p xs ⊎ IsIn p ys
in-twice xs ys p h = elim (IsIn-append p xs ((ys ++ (ys ++ [])) ++ []) h) [
  | inl a ↦ inl a
  | inr b ↦ elim (IsIn-append p (ys ++ (ys ++ [])) [] b) [
    | inl c ↦ elim (IsIn-append p ys (ys ++ []) c) [ inl d ↦ inr d | inr e ↦ elim (IsIn-append p ys [] e) [ inl f ↦ inr f | inr g ↦ absurd g ] ]
    | inr g ↦ absurd g
  ]
]

-- the one place of a test
in-type_if : (b : Bool) (t : Tree Depth) (k : ℕ) (p : TypeAt) → IsIn p (type_if b t k) → p ≡ record { standing = t; under = k }
in-type_if true t k p h = IsIn-only p (record { standing = t; under = k }) h
in-type_if false t k p h = absurd h

-- the places that `among` lists are some of those at which the test is passed
module _ (among : ℕ → Tree Depth → List TypeAt) (test : ℕ → Tree Depth → Bool)
    (at_pair : (k : ℕ) (u : Tree Depth) → among k (twice u) ≡ type_if (test k u) (twice u) k ++ ((among k u ++ (among k u ++ [])) ++ [])) where
  -- however many places there are, they are of as many types as there are pairs, and of those in the single type
  pub among-pairs : (n k : ℕ) (t : Tree Depth) (p : TypeAt) → IsIn p (among k (paired n t)) → IsIn p (pairs n k t (among k t))
  unfolding paired pairs
  among-pairs zero k t p h = h
  among-pairs (suc n) k t p h =
      elim (in-twice (type_if (test k (paired n t)) (twice (paired n t)) k) (among k (paired n t)) p (rw (at_pair k (paired n t)) at h)) [
        | inl a ↦ inl (in-type_if (test k (paired n t)) (twice (paired n t)) k p a)
        | inr b ↦ inr (among-pairs n k t p b)
      ]

  -- so a count of distinct ones grows by no more
  pub few-among : (n before after : ℕ) (t : Tree Depth) → CountsPairs (among 0 (paired n t)) before after → after ≤ before + (n + length (among 0 t))
  few-among n before after t c = omega (
    arith,
    c.few,
    length-distinct c.pairs (pairs n 0 t (among 0 t)) c.distinct (λ p h. among-pairs n 0 t p (c.each p h)),
    length-pairs n 0 t (among 0 t),
  )

-- the types that a shift takes apart are the pairs, and those in the single type
pub moving-pairs : (n : ℕ) (t : Tree Depth) (p : TypeAt) → IsIn p (moving_types 0 (paired n t)) → IsIn p (pairs n 0 t (moving_types 0 t))
moving-pairs n t p h = among-pairs moving_types (λ k u. nat_lt k (outer_binder (twice u))) (λ k u. refl) n 0 t p h

-- a shift of `&'^0.0 i32`, paired 64 times, takes at most 65 types apart
tower_shifted : (before after : ℕ) → CountsPairs (moving_types 0 (paired 64 (reference_at 0))) before after → after ≤ before + 65
tower_shifted before after c = few-among moving_types (λ k u. nat_lt k (outer_binder (twice u))) (λ k u. refl) 64 before after (reference_at 0) c

-- what changes the leaves of the pairs changes the single type
pub rebuild-paired : (index : ℕ → Depth → Depth) (parameter : ℕ → Sort → ℕ → Name → Tree Depth) (n : ℕ) (t : Tree Depth)
    → rebuild index parameter 0 (paired n t) ≡ paired n (rebuild index parameter 0 t)
unfolding paired
rebuild-paired index parameter zero t = refl
rebuild-paired index parameter (suc n) t = rw (rebuild-paired index parameter n t) refl

-- the shifted type is `&'^1.0 i32`, paired 64 times
tower_moved : shift_tree 0 1 (paired 64 (reference_at 0)) ≡ paired 64 (reference_at 1)
tower_moved = rebuild-paired (shifted 1) keep 64 (reference_at 0)
