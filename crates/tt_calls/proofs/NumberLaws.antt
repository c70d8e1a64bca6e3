-- A number that has passed its limit stays past it, whatever digits follow.
use Rattle.std.proofs.Common.{◌≡◌, ℕ, ◌+◌, ◌-◌, ◌*◌, ◌<◌, true, false, List, [], ◌∷◌, None, drop, length, get_or, cond}
use Rattle.std.proofs.Common.{suc, refl, arith, drop-cons}
use Rattle.std.proofs.lemmas.Grind.{common_steps}
use Rattle.tt_calls.specs.Number.{is_digit, number_after, at_most}

-- after a number past the limit, no bytes make a number within it
pub past : (limit n : ℕ) (bs : List ℕ) → limit < n → at_most limit (number_after n bs) ≡ None
past limit n [] h = grind (arith, common_steps)
past limit n (b ∷ bs) h =
    elim (is_digit b) as (λ v. at_most limit (cond v (number_after (n * 10 + (b - 48)) bs) None) ≡ None) [
      | true ↦ past limit (n * 10 + (b - 48)) bs (omega arith)
      | false ↦ refl
    ]

pub past_digit : (limit n b : ℕ) (bs : List ℕ) → limit < n * 10 + (b - 48) → at_most limit (number_after n (b ∷ bs)) ≡ None
past_digit limit n b bs h =
    elim (is_digit b) as (λ v. at_most limit (cond v (number_after (n * 10 + (b - 48)) bs) None) ≡ None) [
      | true ↦ past limit (n * 10 + (b - 48)) bs h
      | false ↦ refl
    ]

-- if the next byte of a word takes a number past the limit, the rest of the word makes no number within it
pub past_word : (limit n i : ℕ) (word : List ℕ) → i < length word → limit < n * 10 + (get_or word i 0 - 48)
    → at_most limit (number_after n (drop i word)) ≡ None
past_word limit n i word inside h = rw (drop-cons word i 0) (past_digit limit n (get_or word i 0) (drop (suc i) word) h)
