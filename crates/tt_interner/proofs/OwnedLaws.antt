-- Lists whose items are an interner's, for any shape of the items.
use Rattle.std.proofs.Common.{◌≡◌, ℕ, zero, suc, ◌<◌, List, [], ◌∷◌, ◌++◌, length, get_or, slice_get, set, take, drop}
use Rattle.std.proofs.Common.{replicate, All, Option, Some, refl, subst, sym, arith}
use Rattle.std.proofs.lemmas.Option.{none-some, same_Some}
use Rattle.tt_kinds.specs.Shape.{Shape, item_shapes}
use Rattle.tt_kinds.specs.Values.{option_shape}
use Rattle.tt_interner.specs.Owned.{IsOwned, AreOwned}
use Rattle.tt_interner.specs.Stored.{Terms, Extends}
use Rattle.tt_interner.proofs.Growth.{IsPart-grows, AreParts-grows}

module _ {T : Type 0} (shape : T → Shape) (terms : Terms) where
  -- the item at a place
  pub item_owned : (xs : List T) (i : ℕ) (d : T) → i < length xs → AreOwned shape terms xs → IsOwned shape terms (get_or xs i d)
  item_owned [] i d h owned = absurd (omega arith)
  item_owned (x ∷ xs) zero d h owned = owned.0
  item_owned (x ∷ xs) (suc i) d h owned = item_owned xs i d (omega arith) owned.1

  -- an item that `get` finds
  pub found_owned : (xs : List T) (i : ℕ) (x : T) → slice_get xs i ≡ Some x → AreOwned shape terms xs → IsOwned shape terms x
  found_owned [] i x e owned = absurd (none-some x e)
  found_owned (y ∷ xs) zero x e owned = subst (IsOwned shape terms) (same_Some y x e) owned.0
  found_owned (y ∷ xs) (suc i) x e owned = found_owned xs i x e owned.1

  -- the item of which `get` says that it is at the place; `lent` is the list as it was lent
  pub get_owned : (xs lent : List T) (i : ℕ) (x : T) → lent ≡ xs → i < length lent → x ≡ get_or lent i x → AreOwned shape terms xs → IsOwned shape terms x
  get_owned xs lent i x same h at owned =
      let all : AreOwned shape terms lent = subst (AreOwned shape terms) (sym same) owned in
      subst (IsOwned shape terms) (sym at) (item_owned lent i x h all)

  -- the value in an option that is owned
  pub some_owned : (o : Option T) (x : T) → o ≡ Some x → IsOwned (option_shape shape) terms o → IsOwned shape terms x
  some_owned o x is owned = (subst (IsOwned (option_shape shape) terms) is owned).2.0

  -- and an option with an owned value
  pub owned_some : (x : T) → IsOwned shape terms x → IsOwned (option_shape shape) terms (Some x)
  owned_some x owned = (refl, tt, (owned, tt))

  -- a list with an item replaced
  pub set_owned : (xs : List T) (i : ℕ) (x : T) → AreOwned shape terms xs → IsOwned shape terms x → AreOwned shape terms (set xs i x)
  set_owned [] i x owned new = tt
  set_owned (y ∷ xs) zero x owned new = (new, owned.1)
  set_owned (y ∷ xs) (suc i) x owned new = (owned.0, set_owned xs i x owned.1 new)

  -- two lists, one after the other
  pub append_owned : (xs ys : List T) → AreOwned shape terms xs → AreOwned shape terms ys → AreOwned shape terms (xs ++ ys)
  append_owned [] ys owned more = more
  append_owned (x ∷ xs) ys owned more = (owned.0, append_owned xs ys owned.1 more)

  -- a list with an item pushed
  pub push_owned : (xs : List T) (x : T) → AreOwned shape terms xs → IsOwned shape terms x → AreOwned shape terms (xs ++ x ∷ [])
  push_owned xs x owned new = append_owned xs (x ∷ []) owned (new, tt)

  -- the first items, as after `truncate` and `pop`
  pub take_owned : (n : ℕ) (xs : List T) → AreOwned shape terms xs → AreOwned shape terms (take n xs)
  take_owned zero xs owned = tt
  take_owned (suc n) [] owned = tt
  take_owned (suc n) (x ∷ xs) owned = (owned.0, take_owned n xs owned.1)

  -- the items from a place on
  pub drop_owned : (n : ℕ) (xs : List T) → AreOwned shape terms xs → AreOwned shape terms (drop n xs)
  drop_owned zero xs owned = owned
  drop_owned (suc n) [] owned = tt
  drop_owned (suc n) (x ∷ xs) owned = drop_owned n xs owned.1

  -- one item, many times
  pub replicate_owned : (n : ℕ) (x : T) → IsOwned shape terms x → AreOwned shape terms (replicate n x)
  replicate_owned zero x owned = tt
  replicate_owned (suc n) x owned = (owned, replicate_owned n x owned)

  -- a list of items that are owned each
  pub all_owned : (xs : List T) → All (IsOwned shape terms) xs → AreOwned shape terms xs
  all_owned [] each = tt
  all_owned (x ∷ xs) each = (each zero x (omega arith), all_owned xs (λ k d h. each (suc k) d (omega (arith, h))))

  -- and each item of an owned list
  pub owned_all : (xs : List T) → AreOwned shape terms xs → All (IsOwned shape terms) xs
  owned_all xs owned = λ k d h. item_owned xs k d h owned

  -- whatever the interner builds, a value stays owned
  pub still_owned : (new : Terms) (x : T) → Extends terms new → IsOwned shape terms x → IsOwned shape new x
  still_owned new x extends owned = IsPart-grows terms.rows new.rows extends.rows (shape x) owned

  -- and a list
  pub list_still_owned : (new : Terms) (xs : List T) → Extends terms new → AreOwned shape terms xs → AreOwned shape new xs
  list_still_owned new xs extends owned = AreParts-grows terms.rows new.rows extends.rows (item_shapes shape xs) owned

-- the laws of owned lists, for `using`
pub ruleset owned_laws = (item_owned, found_owned, set_owned, append_owned, push_owned, take_owned, drop_owned, replicate_owned, still_owned, list_still_owned)
