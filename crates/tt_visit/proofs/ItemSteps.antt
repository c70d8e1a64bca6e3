-- The visit of values in order, one step over plain variables.
use Rattle.std.proofs.Common.{◌≡◌, ℕ, ◌+◌, ◌<◌, ◌≤◌, List, [], ◌∷◌, ◌++◌, length, take, drop, get_or, refl, ap, ◌∙◌}
use Rattle.std.proofs.Common.{arith}
use Rattle.std.proofs.lemmas.Grind.{common_steps}
use Rattle.tt_kinds.specs.Shape.{Shape, none, also, append, Meaning, Sizes, AreParts, IsPart, fill, fill_all}
use Rattle.tt_kinds.specs.Shape.{item_shapes}
use Rattle.tt_visit.specs.Visit.{Visits, GoesOver, GoesOverAll, all_seen, one_seen, Breaks, BreaksAll, first_broke}
use Rattle.tt_visit.proofs.VisitSteps.{seen-append, broke-after, parts-after, take-more, take-rest}

module _ {T : Type 0} (of_item : T → Shape) where
  items-append : (xs ys : List T) → item_shapes of_item (xs ++ ys) ≡ append (item_shapes of_item xs) (item_shapes of_item ys)
  items-append [] ys = refl
  items-append (x ∷ xs) ys = ap (also (of_item x)) (items-append xs ys)

  -- the values before one of them, that one, and the rest
  items-from : (list : List T) (n : ℕ) (x : T) → x ≡ get_or list n x → n < length list
      → item_shapes of_item list ≡ append (item_shapes of_item (take n list)) (also (of_item x) (item_shapes of_item (drop (n + 1) list)))
  items-from list n x h lt =
      ap (item_shapes of_item) (take-rest list n x h lt) ∙ items-append (take n list) (x ∷ drop (n + 1) list)

  -- an item of a list is in range if all the items are
  pub part-item : (size : Sizes) (list : List T) (n : ℕ) (x : T) → x ≡ get_or list n x → n < length list → AreParts size (item_shapes of_item list) → IsPart size (of_item x)
  part-item size list n x h lt are =
      (parts-after size (item_shapes of_item (take n list)) (also (of_item x) (item_shapes of_item (drop (n + 1) list))) (rw (items-from list n x h lt) at are)).0

  module _ {M B : Type 0} (V : Visits M B) (f : Meaning) (list : List T) (n : ℕ) where
    -- to go over the first n items of a list and then over the next is to go over the first n + 1
    pub item-seen : (x : T) (s s1 s' : M) → x ≡ get_or list n x → n < length list → GoesOverAll V s (fill_all f (item_shapes of_item (take n list))) s1
        → GoesOver V s1 (fill f (of_item x)) s' → GoesOverAll V s (fill_all f (item_shapes of_item (take (n + 1) list))) s'
    unfolding fill_all
    item-seen x s s1 s' h lt before now =
        let e = ap (item_shapes of_item) (take-more list n x h lt) ∙ items-append (take n list) (x ∷ []) in
        rw e (seen-append V f (item_shapes of_item (take n list)) (also (of_item x) none) s s1 s' before (one_seen now all_seen))

    -- the visit of a list breaks if the visitor goes over the first n items and breaks at the next
    pub item-broke : (x : T) (s s1 s' : M) (b : B) → x ≡ get_or list n x → n < length list → GoesOverAll V s (fill_all f (item_shapes of_item (take n list))) s1
        → Breaks V s1 (fill f (of_item x)) b s' → BreaksAll V s (fill_all f (item_shapes of_item list)) b s'
    unfolding fill_all
    item-broke x s s1 s' b h lt before now =
        rw (items-from list n x h lt)
        (broke-after V f (item_shapes of_item (take n list)) (also (of_item x) (item_shapes of_item (drop (n + 1) list))) s s1 s' b before (first_broke now))

    -- to go over the first n items of a list that has no more is to go over the list
    pub items-seen : (s s' : M) → length list ≤ n → GoesOverAll V s (fill_all f (item_shapes of_item (take n list))) s' → GoesOverAll V s (fill_all f (item_shapes of_item list)) s'
    items-seen s s' all w =
        let whole : take n list ≡ list = grind (arith, common_steps) in
        rw whole at w
