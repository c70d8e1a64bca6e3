-- The promise of a call that builds a part of a type and then the type.
use Rattle.std.specs.Prelude.{◌≡◌, ℕ, Result, Err, MatchResult}
use Rattle.tt_index.specs.declared.refusal.Refusal.{Refusal}
use Rattle.tt_kinds.specs.Handle.{Ty}
use Rattle.tt_interner.specs.Rows.{Row}
use Rattle.tt_interner.specs.Stored.{Terms, Builds}

-- the part is built, and then, with its handle, the type; where the part is refused, so is the type
pub record BuildsOf {H : Type 0} (number : H → ℕ) (part : Row) (whole : H → Row) (result : Result Ty Refusal)
    (old new : Terms) : Type 0 where
  pub built : Result H Refusal
  pub between : Terms
  pub first : Builds built number old between part
  pub next : MatchResult built (λ h. Builds result (λ ty. ty.number) between new (whole h))
      (λ e. (result ≡ Err e) × (new ≡ between))
