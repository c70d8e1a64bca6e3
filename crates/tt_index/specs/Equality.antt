-- Equalities that are sameness.
use Rattle.std.specs.Prelude.{◌≡◌, ◌↔◌, Bool, IsTrue}

-- the equality holds for two values exactly if they are the same
abbrev pub IsSameness : {A : Type 0} → (A → A → Bool) → Type 0
IsSameness {A} eq = (a b : A) → IsTrue (eq a b) ↔ (a ≡ b)
