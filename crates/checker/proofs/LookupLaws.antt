-- Types that are looked up by their numbers in turn.
use Rattle.std.proofs.Common.{◌≡◌, ℕ, suc, ◌<◌, List, [], ◌∷◌, ◌++◌, length, Some, sym, subst, ap, ◌∙◌, arith, inl, inr}
use Rattle.std.specs.Prelude.{slice_get}
use Rattle.std.proofs.lemmas.Option.{slice_get_within}
use Rattle.tt_kinds.specs.Handle.{Ty}
use Rattle.checker.specs.Items.{AreTypesBefore}
use Rattle.checker.proofs.ListLaws.{below_next, get_more, get_pushed, length_pushed}

-- the types of the first numbers
pub record AreFirst (types : List Ty) (limit : ℕ) (ns : List ℕ) (found : List Ty) (count : ℕ) : Type 0 where
  pub counted : length found ≡ count
  pub each : (k n : ℕ) → k < count → slice_get ns k ≡ Some n → (ty : Ty) × (slice_get found k ≡ Some ty) × (n < limit) × (slice_get types n ≡ Some ty)

-- one more number
pub first_next : (types : List Ty) (limit : ℕ) (ns : List ℕ) (found : List Ty) (count n : ℕ) (ty : Ty) → AreFirst types limit ns found count
    → slice_get ns count ≡ Some n → n < limit → slice_get types n ≡ Some ty → AreFirst types limit ns (found ++ ty ∷ []) (suc count)
first_next types limit ns found count n ty h at below is = record {
  counted = length_pushed found ty ∙ ap suc h.counted;
  each = λ k m less there. elim (below_next k count less) [
    | inl older ↦ (let one = h.each k m older there in (one.0, get_more found (ty ∷ []) k one.0 one.1, one.2, one.3))
    | inr same ↦ (let this : m ≡ n = let p = ap (slice_get ns) same in cc in
        (ty, get_pushed found ty k (same ∙ sym h.counted), subst (λ x. x < limit) (sym this) below, subst (λ x. slice_get types x ≡ Some ty) (sym this) is))
  ];
}

-- all numbers
pub all_found : (types : List Ty) (limit : ℕ) (ns : List ℕ) (found : List Ty) (count : ℕ) → AreFirst types limit ns found count → count ≡ length ns → AreTypesBefore types limit ns found
all_found types limit ns found count h all = record {
  counted = sym all ∙ sym h.counted;
  each = λ k n at. h.each k n (let within = slice_get_within ns k n at in omega (arith, within, all)) at;
}
