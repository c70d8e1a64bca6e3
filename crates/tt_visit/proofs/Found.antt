-- What an answer says of what was looked for.
use Rattle.std.proofs.Common.{◌≡◌, refl}
use Rattle.std.specs.Prelude.{Bool, true, false, IsTrue, ◌↔◌}

-- an answer that is no, where there is nothing to find
pub none-found : (b : Bool) (P : Type 0) → b ≡ false → (P → ⊥) → IsTrue b ↔ P
none-found b P is never = rw is (λ yes. cc, λ p. absurd (never p))

-- an answer that is yes, where it was found
pub one-found : (P : Type 0) → P → IsTrue true ↔ P
one-found P p = (λ _. p, λ _. refl)
