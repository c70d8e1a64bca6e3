-- What the shifter's hooks at stored terms promise.
use Rattle.std.proofs.Common.{◌≡◌, ◌⊎◌, ℕ, List, refl, ap, ◌∙◌}
use Rattle.tt_index.specs.declared.refusal.Refusal.{Refusal}
use Rattle.tt_kinds.specs.Tree.{Depth, Tree}
use Rattle.tt_kinds.specs.Handle.{Ty}
use Rattle.tt_interner.specs.Stored.{Terms, Counters, Extends, counted}
use Rattle.tt_fold.specs.Walk.{replace, descend}
use Rattle.tt_fold.specs.Steps.{IsRefused}
use Rattle.tt_fold.specs.Places.{IsIn}
use Rattle.tt_fold.specs.Remember.{places, IsTaken, OnTerm, given, taken_apart}
use Rattle.tt_fold.specs.Memory.{memos, OwnsMemos}
use Rattle.tt_fold.specs.MemoryGrowth.{shift_state-still}
use Rattle.tt_fold.specs.Shift.{count_shift, moved_tree, IsTooFar, IsTooGreat, IsVariable, shifting, shift_state}
use Rattle.tt_fold.specs.declared.memory.Place.{Place}
use Rattle.tt_fold.specs.TypesOnce.{with_counters}

-- terms that grew and whose counts are the same
module _ (n k : ℕ) (old new : Terms) (es : List (Place × Ty)) (more : Extends old new) (owns : OwnsMemos old.rows es) (same : new.counters ≡ old.counters) where
  state-still : with_counters (shift_state n k new.rows es) new.counters ≡ with_counters (shift_state n k old.rows es) old.counters
  state-still = ap (λ q. with_counters q new.counters) (shift_state-still n k old.rows new.rows es more.rows owns) ∙ ap (with_counters (shift_state n k old.rows es)) same

  -- a moved variable is answered
  pub moved_given : (t r : Tree Depth) → IsVariable t × (r ≡ moved_tree (record { amount = n; under = k }) t)
      → OnTerm shifting (with_counters (shift_state n k old.rows es) old.counters) t (replace r) (with_counters (shift_state n k new.rows es) new.counters)
  moved_given t r h = rw (shift_state-still n k old.rows new.rows es more.rows owns) (given (h.0, h.1, same))

  -- or is refused
  pub moved_refused : (t : Tree Depth) (e : Refusal)
      → IsTooGreat e (IsTooFar (record { amount = n; under = k }) t) ⊎ IsRefused new (moved_tree (record { amount = n; under = k }) t) e
      → shifting.TermFails (IsRefused new) (with_counters (shift_state n k old.rows es) old.counters) t e (with_counters (shift_state n k new.rows es) new.counters)
  moved_refused t e h = (state-still, h)

-- the counts after a descent, and the state beside them
abbrev counts : ℕ → ℕ → Counters
counts a b = record { descents = a; shift_descents = b }

same_counts : (a b x y : ℕ) → a ≡ b → x ≡ y → counts a x ≡ counts b y
same_counts a b x y p q = rw (p, q) refl

-- a type that isn't remembered is taken apart
pub type_taken : (n k : ℕ) (old new : Terms) (es : List (Place × Ty)) → new.rows ≡ old.rows → new.counters.descents ≡ old.counters.descents
    → new.counters.shift_descents ≡ counted old.counters.shift_descents → (t : Tree Depth) → IsTaken shifting n k t
    → (IsIn (record { standing = t; under = k }) (places (memos old.rows es)) → ⊥)
    → OnTerm shifting (with_counters (shift_state n k old.rows es) old.counters) t descend (with_counters (shift_state n k new.rows es) new.counters)
type_taken n k old new es rows descents more t taken fresh =
    let count : new.counters ≡ count_shift old.counters =
    same_counts new.counters.descents old.counters.descents new.counters.shift_descents (counted old.counters.shift_descents) descents more in
    rw (rows, count) (taken_apart taken fresh)
