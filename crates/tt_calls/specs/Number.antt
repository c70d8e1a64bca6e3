-- Numbers as scripts write them.
use Rattle.std.specs.Prelude.{ℕ, ◌+◌, ◌-◌, ◌*◌, Bool, ◌&&◌, nat_le, List, [], ◌∷◌, Option, Some, None, if◌then◌else◌}

-- the byte is a decimal digit
abbrev pub is_digit : ℕ → Bool
is_digit byte = nat_le 48 byte && nat_le byte 57

-- the number that the digits write after earlier digits of number n, if all are digits
abbrev pub number_after : ℕ → List ℕ → Option ℕ
number_after n [] = Some n
number_after n (b ∷ bs) = if is_digit b then number_after (n * 10 + (b - 48)) bs else None

-- the number that the word writes in decimal, if it is not empty and has only digits
abbrev pub decimal : List ℕ → Option ℕ
decimal [] = None
decimal (b ∷ bs) = number_after 0 (b ∷ bs)

-- the number, if it is at most the limit
abbrev pub at_most : ℕ → Option ℕ → Option ℕ
at_most limit None = None
at_most limit (Some n) = if nat_le n limit then Some n else None

-- the number that the word writes, if it is at most the limit
abbrev pub number_within : ℕ → List ℕ → Option ℕ
number_within limit word = at_most limit (decimal word)
