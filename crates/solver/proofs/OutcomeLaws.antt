-- Outcomes of calls, items of lists, and numbers.
use Rattle.std.proofs.Common.{◌≡◌, ℕ, zero, suc, ◌<◌, ◌≤◌, ◌⊎◌, inl, inr, List, [], ◌∷◌, length, map, refl, ap, sym, ◌∙◌, subst, arith}
use Rattle.std.specs.Prelude.{Bool, false, true, is_err, is_some, IfOk, OnOk, Option, Some, None, option_map, Result, Ok, Err, slice_get}
use Rattle.std.proofs.lemmas.Option.{slice_get-map, slice_get_within}

-- what holds on success holds where the outcome is no fault
pub succeeded : {A E X : Type 0} (r : Result A E) (b : Bool) → b ≡ is_err r → b ≡ false → OnOk r X → X
succeeded (Ok a) b is not_err h = h
succeeded (Err e) b is not_err h = absurd (cc)

-- what follows on success
pub on_ok : {A E X Y : Type 0} (r : Result A E) → (X → Y) → OnOk r X → OnOk r Y
on_ok (Ok a) f h = f h
on_ok (Err e) f h = tt

-- a number below the next one is below this one, or is this one
pub below_next : (i m : ℕ) → i < suc m → (i < m) ⊎ (i ≡ m)
below_next zero zero h = inr refl
below_next zero (suc m) h = inl (omega arith)
below_next (suc i) zero h = absurd (omega (arith, h))
below_next (suc i) (suc m) h = elim (below_next i m (omega (arith, h))) [ inl l ↦ inl (omega (arith, l)) | inr e ↦ inr (ap suc e) ]

-- an item is found where the list's items are changed
pub found_map : {X Y : Type 0} (f : X → Y) (xs : List X) (k : ℕ) (x : X) → slice_get xs k ≡ Some x → slice_get (map f xs) k ≡ Some (f x)
found_map f xs k x at = slice_get-map f xs k ∙ ap (option_map f) at

of_option : {X Y : Type 0} (f : X → Y) (o : Option X) (y : Y) → option_map f o ≡ Some y → (x : X) × (o ≡ Some x) × (f x ≡ y)
of_option f None y is = absurd (cc)
of_option f (Some x) y is = (x, refl, cc)

-- an item of a list whose items are changed comes from an item
pub found_mapped : {X Y : Type 0} (f : X → Y) (xs : List X) (k : ℕ) (y : Y) → slice_get (map f xs) k ≡ Some y
    → (x : X) × (slice_get xs k ≡ Some x) × (f x ≡ y)
found_mapped f xs k y at = of_option f (slice_get xs k) y (sym (slice_get-map f xs k) ∙ at)

-- a list whose items are changed is as long
pub as_many : {X Y : Type 0} (f : X → Y) (xs : List X) → length (map f xs) ≡ length xs
as_many f [] = refl
as_many f (x ∷ xs) = rw (as_many f xs) refl

-- the first n items are so
abbrev pub HoldsBelow : {X : Type 0} → (X → Type 0) → List X → ℕ → Type 0
HoldsBelow P xs n = (k : ℕ) (x : _) → k < n → slice_get xs k ≡ Some x → P x

-- and so with one more
pub holds_next : {X : Type 0} (P : X → Type 0) (xs : List X) (n : ℕ) (x : X) → HoldsBelow P xs n → slice_get xs n ≡ Some x → P x
    → HoldsBelow P xs (suc n)
holds_next P xs n x below at is = λ k other less there. elim (below_next k n less) [
  | inl older ↦ below k other older there
  | inr same ↦ (let this : x ≡ other = let p = ap (slice_get xs) same in cc in subst P this is)
]

-- all items are so where the first n are, and there are no more
pub holds_all : {X : Type 0} (P : X → Type 0) (xs : List X) (n : ℕ) → length xs ≤ n → HoldsBelow P xs n
    → (k : ℕ) (x : X) → slice_get xs k ≡ Some x → P x
holds_all P xs n all below k x at = below k x (let within = slice_get_within xs k x at in omega (arith, within, all)) at

-- what is so on success, and what follows from it
pub if_ok : {A E : Type 0} (P Q : A → Type 0) (r : Result A E) → ((a : A) → P a → Q a) → IfOk r P → IfOk r Q
if_ok P Q (Ok a) f h = f a h
if_ok P Q (Err e) f h = tt

-- an option that a test finds empty, or not
pub is_none : {A : Type 0} (o : Option A) (b : Bool) → b ≡ is_some o → b ≡ false → o ≡ None
is_none None b is empty = refl
is_none (Some a) b is empty = absurd (cc)

pub is_found : {A : Type 0} (o : Option A) (b : Bool) → b ≡ is_some o → b ≡ true → (a : A) × (o ≡ Some a)
is_found None b is found = absurd (cc)
is_found (Some a) b is found = (a, refl)
