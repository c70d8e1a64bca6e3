-- What a copy of a value has in common with the value.
use Rattle.std.proofs.Common.{◌≡◌, List, [], ◌∷◌, refl, rules}
use Rattle.std.specs.List.{AllZip}
use Rattle.tt_kinds.specs.Shape.{Shape, item_shapes}

-- if a copy of each item has the item's shape, copies of items in order have their shapes
pub copied_items : {T : Type 0} (of : T → Shape) (is_clone : T → T → Type 0)
    → ((x y : T) → is_clone x y → of y ≡ of x) → (xs ys : List T) → AllZip is_clone xs ys
    → item_shapes of ys ≡ item_shapes of xs
copied_items of is_clone keeps [] [] same = refl
copied_items of is_clone keeps (x ∷ xs) (y ∷ ys) same =
    let first = keeps x y same.0 in let rest = copied_items of is_clone keeps xs ys same.1 in cc
copied_items of is_clone keeps [] (y ∷ ys) same = absurd same
copied_items of is_clone keeps (x ∷ xs) [] same = absurd same

-- the laws by which a copy of a value of a derived `Clone` is seen to have the value's shape
pub ruleset copies = (rules, copied_items)
