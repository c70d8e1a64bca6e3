-- What is left of terms and lists.
use Rattle.std.proofs.Common.{◌≡◌, ℕ, ◌+◌, List, ◌∷◌, drop, Some, ap, sym, ◌∙◌}
use Rattle.std.specs.Prelude.{slice_get}
use Rattle.std.proofs.lemmas.List.{drop_more, drop-drop}
use Rattle.std.proofs.lemmas.Option.{slice_get_within, get_or_from_slice_get}

-- the next item, and the others
pub item-next : {A : Type 0} (xs : List A) (n : ℕ) (x : A) → slice_get xs n ≡ Some x → drop n xs ≡ x ∷ drop 1 (drop n xs)
item-next xs n x h =
    drop_more xs n x (slice_get_within xs n x h) ∙ ap (λ y. y ∷ drop (n + 1) xs) (get_or_from_slice_get xs n x x h)
    ∙ ap (λ ys. x ∷ ys) (sym (drop-drop 1 n xs))

-- the items after the place n are the items from n on, without the first of them
pub items-rest : {A : Type 0} (xs : List A) (n : ℕ) → drop (n + 1) xs ≡ drop 1 (drop n xs)
items-rest xs n = sym (drop-drop 1 n xs)
