-- What the iterators of binders give in a row is what their inner iterators give in a row.
use Rattle.std.proofs.Common.{◌≡◌, refl, sym, ap, subst, ◌∙◌, Option, None, Some, List, map, length, slice_get, fold}
use lib.ListN.{length-map}
use Rattle.std.specs.List.{AllZip}
use Rattle.std.specs.Iterator.Runs.{EachRunFrom, SomeRun, IsCopiedRun}
use Rattle.std.proofs.iter.runs.Adapters.{beside, alongside}
use Rattle.std.proofs.iter.runs.Lists.{linked, linked_long, linked_pairs, AllZip-map, slice_get-map, folded_map}
use Rattle.std.proofs.iter.runs.Made.{run, at-is}
use Rattle.tt_kinds.specs.BinderIter.{GivesUnderBinder, RunsUnderBinder}
use Rattle.tt_kinds.specs.EarlyBinderIter.{GivesEarly, RunsEarly, GivesMarked, RunsMarked, GivesCopied, RunsCopied}
use Rattle.tt_kinds.specs.declared.binder.Unnormalized.{Unnormalized}
use Rattle.tt_kinds.specs.declared.binder_iter.BinderIter.{BinderIter}
use Rattle.tt_kinds.specs.declared.early_binder_iter.EarlyBinderIter.{EarlyBinderIter}
use Rattle.tt_kinds.specs.declared.early_binder_iter.IterIdentity.{IterIdentity}
use Rattle.tt_kinds.specs.declared.early_binder_iter.IterIdentityCopied.{IterIdentityCopied}

-- an iterator each of whose calls makes its item of the inner iterator's, by a state that no call changes
module _ {U S A B K : Type 0} (outer : U → Option B → U → Type 0) (gives : S → Option A → S → Type 0)
    (inner : U → S) (state : U → K) (make : K → A → B) where
  abbrev makes : K → A → B → K → Type 0
  makes k x y l = (l ≡ k) × (y ≡ make k x)

  made_items : (k : K) (xs : List A) (ys : List B) → linked makes k xs ys → ys ≡ map (make k) xs
  made_items k xs ys h =
      AllZip-map (make k) xs ys (linked_pairs makes (λ x y. y ≡ make k x) k (λ x y l m. m) xs ys h)

  pub made_runs : ((s : U) (y : B) (t : U) → outer s (Some y) t
      → (x : A) × gives (inner s) (Some x) (inner t) × makes (state s) x y (state t))
      → ((s t : U) → outer s None t → gives (inner s) None (inner t))
      → (s : U) → EachRunFrom outer s (λ p. SomeRun gives (inner s) (λ q. IsCopiedRun p q (make (state s))))
  made_runs go stop s p _ e =
      let v : A → B = make (state s) in
      let h = beside outer gives inner state makes go stop p in
      let made : p.items ≡ map v h.0 = subst (λ k. p.items ≡ map (make k) h.0) (ap state e) (made_items _ h.0 p.items h.2) in (
        run gives (inner p.from) h.0 p.whole h.1,
        ap inner e,
        (
          refl,
          p.long ∙ ap length made ∙ length-map h.0 v,
          made,
          λ k. at-is p k ∙ ap (λ l. slice_get l k) made ∙ slice_get-map v h.0 k,
          λ u n. ap (fold u n) made ∙ sym (folded_map v u n h.0),
        ),
      )

module _ {S A : Type 0} (gives : S → Option A → S → Type 0) where
  -- calls of a `BinderIter` in a row give the inner iterator's items in order, each under the binder's variables
  pub bound_runs : (s : BinderIter S) → RunsUnderBinder gives s.bound_vars s
  bound_runs =
      made_runs (GivesUnderBinder gives) gives (λ s. s.iter) (λ s. s.bound_vars)
      (λ vars item. record { value = item; bound_vars = vars })
      (λ s y t k. (y.value, k.0, (k.1, ap (λ vars. record { value = y.value; bound_vars = vars }) k.2)))
      (λ s t k. k.0)

  -- calls of an `EarlyBinderIter` in a row give the inner iterator's items in order, each still to be instantiated
  pub early_runs : (s : EarlyBinderIter S) → RunsEarly gives s
  early_runs =
      made_runs {K = Unit {0}} (GivesEarly gives) gives (λ s. s.t) (λ _. tt) (λ _ item. record { value = item })
      (λ s y t k. (y.value, k, (refl, refl)))
      (λ s t k. k)

  -- calls of an `IterIdentity` in a row give the inner iterator's items in order, each marked as not normalized
  pub marked_runs : (s : IterIdentity S) → RunsMarked gives s
  marked_runs =
      made_runs {K = Unit {0}} (GivesMarked gives) gives (λ s. s.iter) (λ _. tt) (λ _ item. record { value = item })
      (λ s y t k. (y.value, k, (refl, refl)))
      (λ s t k. k)

  module _ {B : Type 0} (dereferences : A → B → Type 0) where
    -- the relation of an item and its copy, with the states before and after, which say nothing
    abbrev copies : Unit {0} → A → Unnormalized B → Unit {0} → Type 0
    copies _ x y _ = dereferences x y.value

    -- R relates each item to its copy, if it relates each item to whatever it dereferences to
    related : (R : A → Unnormalized B → Type 0) → ((x : A) (y : Unnormalized B) → dereferences x y.value → R x y)
        → (xs : List A) (ys : List (Unnormalized B)) → linked copies tt xs ys → AllZip R xs ys
    related R all xs ys = linked_pairs copies R tt (λ x y q k. (refl, all x y k)) xs ys

    -- calls of an `IterIdentityCopied` in a row give what each inner item dereferences to, marked as not normalized
    pub copied_runs : (s : IterIdentityCopied S) → RunsCopied gives dereferences s
    copied_runs s p _ e =
        let h = beside (GivesCopied gives dereferences) gives (λ u. u.it) (λ _. tt) copies (λ u y t k. k) (λ u t k. k) p in (
          run gives p.from.it h.0 p.whole h.1,
          ap (λ u. u.it) e,
          (
            refl,
            p.long ∙ linked_long copies h.0 p.items tt h.2,
            alongside p h.0 (λ x y. dereferences x y.value) (related (λ x y. dereferences x y.value) (λ x y k. k) h.0 p.items h.2),
            λ f same. AllZip-map (λ x. record { value = f x }) h.0 p.items
                (related (λ x y. y ≡ record { value = f x }) (λ x y k. ap (λ b. record { value = b }) (same x y.value k)) h.0 p.items h.2),
          ),
        )
