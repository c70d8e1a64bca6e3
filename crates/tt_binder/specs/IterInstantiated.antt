-- Iterators that instantiate their items.
use Rattle.std.specs.Prelude.{◌≡◌, List, Option, Some, None, Result, MatchOption}
use Rattle.tt_index.specs.declared.refusal.Refusal.{Refusal}
use Rattle.tt_kinds.specs.Argument.{Argument}
use Rattle.tt_kinds.specs.Shape.{Shape}
use Rattle.tt_kinds.specs.Tree.{Depth}
use Rattle.tt_kinds.specs.declared.binder.Unnormalized.{Unnormalized}
use Rattle.tt_interner.specs.Rows.{Row}
use Rattle.tt_interner.specs.Stored.{Terms}
use Rattle.tt_fold.specs.Steps.{IsPartBy}
use Rattle.tt_binder.specs.Promise.{InstancePromise}

module _ {I T : Type 0} (shape : T → Shape) (gives : I → Option T → I → Type 0) where
  -- the handles of each item that the iterator may give next are the interner's
  abbrev pub NextIsOwned : List Row → I → Type 0
  NextIsOwned rows it = (item : T) (left : I) → gives it (Some item) left → IsPartBy shape rows item

  -- the iterator had no item, and the interner is unchanged; or it gave an item, and the result is the item's instance
  abbrev pub GivesInstance : List (Argument Depth) → I → Terms → Option (Result (Unnormalized T) Refusal) → I → Terms
      → Type 0
  GivesInstance args it old result left new =
      MatchOption result
      (gives it None left × (new ≡ old))
      (λ r. (item : T) × gives it (Some item) left × InstancePromise shape args item old r new)

-- the iterator had no item; or it gave an item that points to this value
abbrev pub GivesTarget : {I A T : Type 0} → (I → Option A → I → Type 0) → (A → T → Type 0) → I → Option T → I → Type 0
GivesTarget gives points it None left = gives it None left
GivesTarget {A} gives points it (Some value) left = (item : A) × gives it (Some item) left × points item value
