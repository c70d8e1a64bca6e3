-- What the iterators over a declared value's items return.
use Rattle.std.specs.Prelude.{◌≡◌, map, Option, option_map, MatchOption, None, Some}
use Rattle.std.specs.Iterator.Runs.{Run, EachRunFrom, SomeRun, IsCopiedRun, RelatesRuns}
use Rattle.tt_kinds.specs.declared.binder.EarlyBinder.{EarlyBinder}
use Rattle.tt_kinds.specs.declared.binder.Unnormalized.{Unnormalized}
use Rattle.tt_kinds.specs.declared.early_binder_iter.EarlyBinderIter.{EarlyBinderIter}
use Rattle.tt_kinds.specs.declared.early_binder_iter.IterIdentity.{IterIdentity}
use Rattle.tt_kinds.specs.declared.early_binder_iter.IterIdentityCopied.{IterIdentityCopied}

module _ {S A : Type 0} (gives : S → Option A → S → Type 0) where
  -- a call returned what the inner iterator returned, with its parameters still to be replaced
  abbrev pub GivesEarly : EarlyBinderIter S → Option (EarlyBinder A) → EarlyBinderIter S → Type 0
  GivesEarly s r t = gives s.t (option_map (λ item. item.value) r) t.t

  -- successive calls return the inner iterator's items, in its order, each with its parameters still to be replaced
  abbrev pub RunsEarly : EarlyBinderIter S → Type 0
  RunsEarly s =
      EachRunFrom GivesEarly s (λ p. SomeRun gives s.t (λ q. IsCopiedRun p q (λ item. record { value = item })))

  -- a call returned what the inner iterator returned, marked as not normalized
  abbrev pub GivesMarked : IterIdentity S → Option (Unnormalized A) → IterIdentity S → Type 0
  GivesMarked s r t = gives s.iter (option_map (λ item. item.value) r) t.iter

  -- successive calls return the inner iterator's items, in its order, each marked as not normalized
  abbrev pub RunsMarked : IterIdentity S → Type 0
  RunsMarked s =
      EachRunFrom GivesMarked s (λ p. SomeRun gives s.iter (λ q. IsCopiedRun p q (λ item. record { value = item })))

  module _ {B : Type 0} (dereferences : A → B → Type 0) where
    -- a call returned what the inner iterator's item dereferences to, marked as not normalized
    abbrev pub GivesCopied : IterIdentityCopied S → Option (Unnormalized B) → IterIdentityCopied S → Type 0
    GivesCopied s r t =
        MatchOption r (gives s.it None t.it) (λ copied. (item : A) × gives s.it (Some item) t.it
        × dereferences item copied.value)

    -- p returned what each item of q dereferences to, which is f of the item if f is a function that says this
    abbrev pub CopiesRun : Run GivesCopied → Run gives → Type 0
    CopiesRun p q =
        (q.whole ≡ p.whole) × (p.len ≡ q.len) × RelatesRuns p q (λ item copied. dereferences item copied.value)
        × ((f : A → B) → ((item : A) (b : B) → dereferences item b → b ≡ f item)
        → p.items ≡ map (λ item. record { value = f item }) q.items)

    -- successive calls return what the inner iterator's items dereference to, in order, each marked as not normalized
    abbrev pub RunsCopied : IterIdentityCopied S → Type 0
    RunsCopied s = EachRunFrom GivesCopied s (λ p. SomeRun gives s.it (λ q. CopiesRun p q))
