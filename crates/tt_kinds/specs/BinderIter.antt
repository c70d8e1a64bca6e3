-- What the iterator over a binder's items returns.
use Rattle.std.specs.Prelude.{◌≡◌, Option, option_map, IfSome}
use Rattle.std.specs.Iterator.Runs.{EachRunFrom, SomeRun, IsCopiedRun}
use Rattle.tt_kinds.specs.Handle.{BoundVarKinds}
use Rattle.tt_kinds.specs.declared.binder.Binder.{Binder}
use Rattle.tt_kinds.specs.declared.binder_iter.BinderIter.{BinderIter}

module _ {S A : Type 0} (gives : S → Option A → S → Type 0) where
  -- a call returned what the inner iterator returned, under the binder's variables, which are unchanged
  abbrev pub GivesUnderBinder : BinderIter S → Option (Binder A) → BinderIter S → Type 0
  GivesUnderBinder s r t =
      gives s.iter (option_map (λ item. item.value) r) t.iter
      × (t.bound_vars ≡ s.bound_vars)
      × IfSome r (λ item. item.bound_vars ≡ s.bound_vars)

  -- successive calls return the inner iterator's items, in its order, each under a binder of these variables
  abbrev pub RunsUnderBinder : BoundVarKinds → BinderIter S → Type 0
  RunsUnderBinder vars s =
      EachRunFrom GivesUnderBinder s (λ p. SomeRun gives s.iter (λ q.
      IsCopiedRun p q (λ item. record { value = item; bound_vars = vars })))
