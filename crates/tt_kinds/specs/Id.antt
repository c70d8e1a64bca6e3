-- Ids by the sort of what they name.
use Rattle.std.specs.Prelude.{ℕ}
use Rattle.tt_kinds.specs.declared.id.Id.{Id}

-- the id of a number
abbrev pub id_of : {S : Type 0} → ℕ → Id S
id_of n = record { number = n; of = record {} }
