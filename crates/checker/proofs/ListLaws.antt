-- Items of lists to which one is pushed.
use Rattle.std.proofs.Common.{◌≡◌, refl, ℕ, zero, suc, ◌<◌, List, [], ◌∷◌, ◌++◌, length, Some, ap, arith, pred, ◌⊎◌}
use Rattle.std.proofs.Common.{inl, inr}
use Rattle.std.specs.Prelude.{map, slice_get, take}

-- an item stays where more items come after it
pub get_more : {T : Type 0} (xs ys : List T) (i : ℕ) (x : T) → slice_get xs i ≡ Some x → slice_get (xs ++ ys) i ≡ Some x
get_more [] ys i x h = absurd (cc)
get_more (y ∷ xs) ys zero x h = h
get_more (y ∷ xs) ys (suc i) x h = get_more xs ys i x h

-- the item that was pushed
pub get_pushed : {T : Type 0} (xs : List T) (x : T) (n : ℕ) → n ≡ length xs → slice_get (xs ++ x ∷ []) n ≡ Some x
get_pushed [] x zero h = refl
get_pushed [] x (suc n) h = absurd (cc)
get_pushed (y ∷ xs) x zero h = absurd (cc)
get_pushed (y ∷ xs) x (suc n) h = get_pushed xs x n (ap pred h)

-- a number below the next one is below this one, or is this one
pub below_next : (i n : ℕ) → i < suc n → (i < n) ⊎ (i ≡ n)
below_next zero zero h = inr refl
below_next zero (suc n) h = inl (omega arith)
below_next (suc i) zero h = absurd (omega (arith, h))
below_next (suc i) (suc n) h = elim (below_next i n (omega (arith, h))) [ inl less ↦ inl (omega (arith, less)) | inr same ↦ inr (ap suc same) ]

-- the same item
pub same_item : {T : Type 0} (x y : T) → Some x ≡ Some y → x ≡ y
same_item x y h = cc

-- one item more
pub take_next : {T : Type 0} (xs : List T) (i : ℕ) (x : T) → slice_get xs i ≡ Some x → take (suc i) xs ≡ take i xs ++ x ∷ []
take_next [] i x h = absurd (cc)
take_next (y ∷ xs) zero x h = cc
take_next (y ∷ xs) (suc i) x h = ap (λ ys. y ∷ ys) (take_next xs i x h)

-- there is one item more
pub length_pushed : {T : Type 0} (xs : List T) (x : T) → length (xs ++ x ∷ []) ≡ suc (length xs)
length_pushed [] x = refl
length_pushed (y ∷ xs) x = ap suc (length_pushed xs x)

-- an item after a push was there, or is the one that was pushed
pub found_of_pushed : {T : Type 0} (xs : List T) (x : T) (i : ℕ) (y : T) → slice_get (xs ++ x ∷ []) i ≡ Some y
    → (slice_get xs i ≡ Some y) ⊎ ((i ≡ length xs) × (x ≡ y))
found_of_pushed [] x zero y h = inr (refl, same_item x y h)
found_of_pushed [] x (suc i) y h = absurd (cc)
found_of_pushed (z ∷ xs) x zero y h = inl h
found_of_pushed (z ∷ xs) x (suc i) y h = elim (found_of_pushed xs x i y h) [
  | inl older ↦ inl older
  | inr newest ↦ inr (ap suc newest.0, newest.1)
]

-- a list that is mapped is as long
pub length_mapped : {T U : Type 0} (f : T → U) (xs : List T) → length (map f xs) ≡ length xs
length_mapped f [] = refl
length_mapped f (x ∷ xs) = ap suc (length_mapped f xs)

-- what is found in it is what an item becomes
pub found_mapped : {T U : Type 0} (f : T → U) (xs : List T) (i : ℕ) (y : U) → slice_get (map f xs) i ≡ Some y
    → (x : T) × (slice_get xs i ≡ Some x) × (f x ≡ y)
found_mapped f [] i y h = absurd (cc)
found_mapped f (x ∷ xs) zero y h = (x, refl, same_item (f x) y h)
found_mapped f (x ∷ xs) (suc i) y h = found_mapped f xs i y h

-- a list that is pushed to and mapped
pub mapped_pushed : {T U : Type 0} (f : T → U) (xs : List T) (x : T) → map f (xs ++ x ∷ []) ≡ map f xs ++ f x ∷ []
mapped_pushed f [] x = refl
mapped_pushed f (y ∷ xs) x = ap (λ ys. f y ∷ ys) (mapped_pushed f xs x)
