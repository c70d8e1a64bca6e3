-- The promise of opening a binder, as one record for contents of every type.
use Rattle.std.specs.Prelude.{List, Result, Ok, ◌≡◌, ◌≤◌, IfOk, IfErr, OnOk}
use Rattle.tt_index.specs.declared.refusal.Refusal.{Refusal}
use Rattle.tt_kinds.specs.Tree.{Depth}
use Rattle.tt_kinds.specs.Reading.{outer_binder}
use Rattle.tt_kinds.specs.Argument.{Argument}
use Rattle.tt_kinds.specs.Count.{moving_types}
use Rattle.tt_kinds.specs.Shape.{Shape}
use Rattle.tt_interner.specs.Stored.{Terms, Extends}
use Rattle.tt_fold.specs.Places.{CountsPairs}
use Rattle.tt_fold.specs.Steps.{IsPartBy, tree_by}
use Rattle.tt_binder.specs.Opening.{IsOpened, IsGiven, IsOpeningReason}

-- the promise of the call with these arguments for a binder's contents; the interner is `old` before, `new` afterwards
pub record OpeningPromise {T : Type 0} (shape : T → Shape) (args : List (Argument Depth)) (value : T) (old : Terms)
    (result : Result T Refusal) (new : Terms) : Type 0 where
  -- every earlier handle keeps its meaning
  pub extends : Extends old new
  -- neither count falls
  pub descents : old.counters.descents ≤ new.counters.descents
  pub shift_descents : old.counters.shift_descents ≤ new.counters.shift_descents
  -- at most one descent for each type with a variable that is bound by the binder or outside of it, under each number
  -- of binders
  pub pairs : CountsPairs (moving_types 0 (tree_by shape old.rows value)) old.counters.descents new.counters.descents
  -- the handles of the result are the interner's
  pub in_range : IfOk result (λ r. IsPartBy shape new.rows r)
  -- the result is the plain opening
  pub plain : IfOk result (λ r. IsOpened args (tree_by shape old.rows value) (tree_by shape new.rows r))
  -- if the call succeeds, each own variable had an argument of its sort
  pub given : OnOk result (IsGiven args 0 (tree_by shape old.rows value))
  -- if the call is refused, there is a reason
  pub err : IfErr result (IsOpeningReason new args (tree_by shape old.rows value))
  -- contents with no variable that is bound by the binder or outside of it are returned unchanged
  pub same : outer_binder (tree_by shape old.rows value) ≡ 0 → (result ≡ Ok value) × (new ≡ old)
