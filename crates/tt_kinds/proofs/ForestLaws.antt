-- Parts of forests, as parts of stored lists have them.
use Rattle.std.proofs.Common.{◌≡◌, ℕ, zero, suc, List, [], ◌∷◌, length, take, drop, refl, ap}
use Rattle.tt_kinds.specs.Label.{Name, Label}
use Rattle.tt_kinds.specs.Tree.{Depth, Tree, node, Forest, none, also, count_trees, take_trees, drop_trees}
use Rattle.tt_kinds.specs.Shape.{Shape, Meaning, Extent, first_item, item_count, items_of, items_in, item_shapes, fill}
use Rattle.tt_kinds.specs.Shape.{fill_all}

-- what holds of a forest where it holds of each tree
pub record IsOfEach (All : Forest Depth → Type 0) (Of : Tree Depth → Type 0) : Type 0 where
  pub nothing : All none
  pub first : (t : Tree Depth) (ts : Forest Depth) → All (also t ts) → Of t
  pub others : (t : Tree Depth) (ts : Forest Depth) → All (also t ts) → All ts
  pub more : (t : Tree Depth) (ts : Forest Depth) → Of t → All ts → All (also t ts)

module _ (All : Forest Depth → Type 0) (Of : Tree Depth → Type 0) (each : IsOfEach All Of) where
  take-each : (n : ℕ) (ts : Forest Depth) → All ts → All (take_trees n ts)
  take-each zero ts h = each.nothing
  take-each (suc n) none h = each.nothing
  take-each (suc n) (also t ts) h = each.more t (take_trees n ts) (each.first t ts h) (take-each n ts (each.others t ts h))

  drop-each : (n : ℕ) (ts : Forest Depth) → All ts → All (drop_trees n ts)
  drop-each zero ts h = h
  drop-each (suc n) none h = each.nothing
  drop-each (suc n) (also t ts) h = drop-each n ts (each.others t ts h)

  -- it holds of a part of the forest
  pub part-each : (e : Extent) (ts : Forest Depth) → All ts → All (items_in e ts)
  part-each e ts h = take-each (item_count e (count_trees ts)) (drop_trees (first_item e) ts) (drop-each (first_item e) ts h)

  module _ (of_items : (l : Label Name) (ts : Forest Depth) → Of (node l ts) → All ts) where
    items-each : (t : Tree Depth) → Of t → All (items_of t)
    items-each (node l ts) h = of_items l ts h
    items-each _ h = each.nothing

    -- where it holds of a list, it holds of a part of its items
    pub list-each : (e : Extent) (t : Tree Depth) → Of t → All (items_in e (items_of t))
    list-each e t h = part-each e (items_of t) (items-each t h)

module _ {T : Type 0} (f : Meaning) (of_item : T → Shape) where
  count-items : (xs : List T) → count_trees (fill_all f (item_shapes of_item xs)) ≡ length xs
  unfolding fill_all
  count-items [] = refl
  count-items (x ∷ xs) = ap suc (count-items xs)

  take-items : (n : ℕ) (xs : List T) → take_trees n (fill_all f (item_shapes of_item xs)) ≡ fill_all f (item_shapes of_item (take n xs))
  unfolding fill_all
  take-items zero xs = refl
  take-items (suc n) [] = refl
  take-items (suc n) (x ∷ xs) = ap (also (fill f (of_item x))) (take-items n xs)

  drop-items : (n : ℕ) (xs : List T) → drop_trees n (fill_all f (item_shapes of_item xs)) ≡ fill_all f (item_shapes of_item (drop n xs))
  unfolding fill_all
  drop-items zero xs = refl
  drop-items (suc n) [] = refl
  drop-items (suc n) (x ∷ xs) = drop-items n xs

  -- a part of the trees of some items is the trees of that part of the items
  pub part-items : (e : Extent) (xs : List T)
      → items_in e (fill_all f (item_shapes of_item xs)) ≡ fill_all f (item_shapes of_item (take (item_count e (length xs)) (drop (first_item e) xs)))
  part-items e xs =
      rw (count-items xs, drop-items (first_item e) xs) (take-items (item_count e (length xs)) (drop (first_item e) xs))
