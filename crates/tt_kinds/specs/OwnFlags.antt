-- The flags and the outer exclusive binder of a kind itself, without its contents.
use Rattle.std.specs.Prelude.{ℕ, bit_or}
use Rattle.tt_kinds.specs.Label.{Sort, Label, flags_of_label}
use Rattle.tt_kinds.specs.Reading.{place, reach}
use Rattle.tt_kinds.specs.Scan.{param_flags, bound_flags, index_flags}
use Rattle.tt_kinds.specs.Kinds.{Form, param, bound, plain, under}

-- the flags of a kind of this form, whose parameters and variables are of this sort
abbrev pub own_flags : Sort → Form (Label ℕ) → ℕ
own_flags s (param i name) = param_flags s
own_flags s (bound d e) = bit_or (bound_flags s) (index_flags d)
own_flags s (plain l p) = flags_of_label l
own_flags s (under l vars m p) = flags_of_label l

-- one more than the index of a bound variable, and 0 for a canonical variable and for every other kind
abbrev pub own_reach : Form (Label ℕ) → ℕ
own_reach (bound d e) = reach (place 0 d)
own_reach _ = 0
