-- An order in which children come first gives each variable a place above those of its children.
use Rattle.std.proofs.Common.{◌≡◌, refl, ℕ, suc, ◌<◌, ◌≤◌, List, [], ◌∷◌, ◌++◌, Option, Some, Contains, false, not}
use Rattle.std.proofs.Common.{length, take, drop, drop-cons, get_or, position, sym, subst, ap, ◌∙◌}
use Rattle.std.proofs.Common.{◌⊎◌, inl, inr, arith}
use Rattle.std.specs.Prelude.{nat_eq}
use Rattle.std.specs.List.{position_or_len}
use Rattle.std.proofs.lemmas.Bool.{cases_lt, cond-true, eq-eqb, eqb-true, lt-ltb, not-true, true≢false}
use Rattle.std.proofs.lemmas.List.{get_or-take, length-take-le, take-append-drop}
use Rattle.std.proofs.lemmas.List.Quantifiers.{position-Some}
use Rattle.std.proofs.lemmas.List.Sums.{prefix_len_passes}
use Rattle.unify.specs.Search.{IsOrder}

-- the place of the variable's first occurrence in the list
abbrev pub first_place : List ℕ → ℕ → Option ℕ
first_place xs v = position (nat_eq v) xs

-- the first occurrence of a variable is not behind another occurrence
first_at_most : (xs : List ℕ) (v k : ℕ) → get_or xs k v ≡ v → position_or_len (nat_eq v) xs ≤ k
first_at_most xs v k is = elim (cases_lt k (position_or_len (nat_eq v) xs)) [
  | inl before ↦ (let passes = prefix_len_passes (λ x. not (nat_eq v x)) xs k v before in
      let other : nat_eq v (get_or xs k v) ≡ false = not-true _ passes in
      absurd (true≢false (sym (eq-eqb v (get_or xs k v) (sym is)) ∙ other)))
  | inr behind ↦ behind
]

-- a variable that occurs has a place, which is at most that of the occurrence
place_found : (xs : List ℕ) (v k : ℕ) → k < length xs → get_or xs k v ≡ v
    → (q : ℕ) × ((first_place xs v ≡ Some q) × (q ≤ k))
place_found xs v k within is =
    let least = first_at_most xs v k is in
    let inside : position_or_len (nat_eq v) xs < length xs = omega (arith, least, within) in
    (position_or_len (nat_eq v) xs, (cond-true _ _ _ (lt-ltb _ _ inside), least))

-- places are below the length
pub place_below : (xs : List ℕ) (v r : ℕ) → first_place xs v ≡ Some r → r < length xs
place_below xs v r at = (position-Some (nat_eq v) xs r v at).0

-- each variable of the list has a place
pub place_of : (xs : List ℕ) (v : ℕ) → Contains xs v → (r : ℕ) × (first_place xs v ≡ Some r)
place_of xs v at = let found = place_found xs v at.0 at.1 at.2 in (found.0, found.1.0)

-- the parts of a list before and behind a variable's place
parts_at : (xs : List ℕ) (v r : ℕ) → r < length xs → get_or xs r v ≡ v → xs ≡ take r xs ++ v ∷ drop (suc r) xs
parts_at xs v r within is =
    let behind : drop r xs ≡ v ∷ drop (suc r) xs = drop-cons xs r v within ∙ ap (λ x. x ∷ drop (suc r) xs) is in
    sym (take-append-drop r xs) ∙ ap (λ ys. take r xs ++ ys) behind

-- in an order a child's place is below that of the parent
pub place_above : (Child : ℕ → ℕ → Type 0) (xs : List ℕ) → IsOrder Child xs → (v r : ℕ) → first_place xs v ≡ Some r
    → (u : ℕ) → Child v u → (q : ℕ) × ((first_place xs u ≡ Some q) × (q < r))
place_above Child xs order v r at u is =
    let there = position-Some (nat_eq v) xs r v at in
    let within : r < length xs = there.0 in
    let own : get_or xs r v ≡ v = sym (eqb-true v (get_or xs r v) there.1) in
    let before = order (take r xs) (drop (suc r) xs) v u (parts_at xs v r within own) is in
    let few : length (take r xs) ≡ r = length-take-le r xs (omega (arith, within)) in
    let less : before.0 < r = omega (arith, few, before.1) in
    let same = sym (get_or-take r xs before.0 u less) ∙ before.2 in
    let found = place_found xs u before.0 (omega (arith, less, within)) same in
    (found.0, (found.1.0, omega (arith, found.1.1, less)))

-- where a list ends in v and has w, w is this last v, or is in front of v
parts_of_push : (xs before after : List ℕ) (v w : ℕ) → xs ++ v ∷ [] ≡ before ++ w ∷ after
    → ((xs ≡ before) × (v ≡ w)) ⊎ ((rest : List ℕ) × (xs ≡ before ++ w ∷ rest))
parts_of_push [] [] after v w e = let same : v ≡ w = cc in inl (refl, same)
parts_of_push [] (b ∷ []) after v w e = absurd (cc)
parts_of_push [] (b ∷ c ∷ before) after v w e = absurd (cc)
parts_of_push (x ∷ xs) [] after v w e = let same : x ≡ w = cc in inr (xs, ap (λ y. y ∷ xs) same)
parts_of_push (x ∷ xs) (b ∷ before) after v w e =
    let first : x ≡ b = cc in
    let rest : xs ++ v ∷ [] ≡ before ++ w ∷ after = cc in
    elim (parts_of_push xs before after v w rest) [
      | inl last ↦ (let longer : x ∷ xs ≡ b ∷ before = cc in inl (longer, last.1))
      | inr inner ↦ (let longer : x ∷ xs ≡ b ∷ before ++ w ∷ inner.0 = let e = inner.1 in cc in inr (inner.0, longer))
    ]

module _ (Child : ℕ → ℕ → Type 0) where
  -- the empty list is an order
  pub order_empty : IsOrder Child []
  order_empty [] after v u e c = absurd (cc)
  order_empty (b ∷ before) after v u e c = absurd (cc)

  -- a variable whose children are in the order can go last
  pub order_pushed : (xs : List ℕ) (v : ℕ) → IsOrder Child xs → ((u : ℕ) → Child v u → Contains xs u)
      → IsOrder Child (xs ++ v ∷ [])
  order_pushed xs v order all before after w u e c = elim (parts_of_push xs before after v w e) [
    | inl last ↦ subst (λ ys. Contains ys u) last.0 (all u (subst (λ x. Child x u) (sym last.1) c))
    | inr inner ↦ order before inner.0 w u inner.1 c
  ]
