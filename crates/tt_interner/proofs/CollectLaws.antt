-- Items that don't fit, iterators whose items are made values, and the items that are collected in parts.
use Rattle.std.proofs.Common.{◌≡◌, refl, sym, ◌∙◌, ap, subst, ℕ, ◌*◌, ◌<◌, ◌^◌, List, [], ◌∷◌, ◌++◌, Option, Some}
use Rattle.std.proofs.Common.{Result, Ok, Err, map, arith}
use Rattle.std.proofs.lemmas.Bool.Decides.{nat_tests}
use Rattle.std.specs.Fn.{Called, Mut}
use Rattle.std.specs.Iterator.{Drains, Yields}
use Rattle.std.specs.Iterator.Adapters.{map_source, map_callee, map_steps}
use Rattle.tt_interner.specs.Collect.{YieldsErr, YieldsMany, YieldsManyOk}
use prog.Memory.{capped}

-- of a size beyond an eighth of the memory, eight don't fit
pub too-large : (size word : ℕ) → word ≡ capped size → 1152921504606846975 < word → 8 * size < 2 ^ 63 → ⊥
too-large size word is large fits = grind (arith, nat_tests)

module _ {S T E F : Type 0} (steps : S → Option T → S → Type 0) (g : Mut F (T × Unit {0}) (Result T E)) (f : F) where
  -- the closure makes each item a value, and stays as it is
  abbrev pub MakesValues : Type 0
  MakesValues = (x : T) (r : Result T E) (f' : F) → Called g f (x, tt) r f' → (f' ≡ f) × (r ≡ Ok x)

  -- the values are the items of the source
  source-yields : (xs : List T) (m n : _) → map_callee m ≡ f → MakesValues → Yields (map_steps steps g) m (map Ok xs) n
      → Yields steps (map_source m) xs (map_source n) × (map_callee n ≡ f)
  source-yields [] m n is only same = (ap map_source same, sym (ap map_callee same) ∙ is)
  source-yields (x ∷ xs) m n is only (j, (y, step, call), rest) =
      let k = only y (Ok x) (map_callee j) (subst (λ h. Called g h (y, tt) (Ok x) (map_callee j)) is call) in
      let more = source-yields xs j n k.0 only rest in
      let same : x ≡ y = cc in
      ((map_source j, subst (λ z. steps (map_source m) (Some z) (map_source j)) (sym same) step, more.0), more.1)

  -- if a closure makes each item a value, the source yields to its end the items whose values are yielded
  pub source-drains : (xs : List T) (m : _) (s : S) → map_source m ≡ s → map_callee m ≡ f
      → Drains (map_steps steps g) m (map Ok xs) → MakesValues → Drains steps s xs
  source-drains xs m s from is (u, (v, ys, none)) only =
      subst (λ z. Drains steps z xs) from (map_source u, (map_source v, (source-yields xs m v is only ys).0, none.0))

  -- if a closure makes each item a value and there are more values than are kept in place, so are the items
  pub source-many : (m : _) (s : S) → map_source m ≡ s → map_callee m ≡ f
      → YieldsManyOk (map_steps steps g) m → MakesValues → YieldsMany steps s
  source-many m s from is (xs, rest, ys, many) only =
      subst (λ z. YieldsMany steps z) from (xs, map_source rest, (source-yields xs m rest is only ys).0, many)

  -- there is no error among them
  pub no-error : (e : E) (m : _) → map_callee m ≡ f → YieldsErr (map_steps steps g) m e → MakesValues → ⊥
  no-error e m is (xs, rest, (t, ys, (y, step, call))) only =
      let k = only y (Err e) (map_callee rest) (subst (λ h. Called g h (y, tt) (Err e) (map_callee rest)) (source-yields xs m t is only ys).1 call) in
      cc (k.1)

module _ {I A : Type 0} (gives : I → Option A → I → Type 0) where
  -- one more item at the end
  pub yields-more : (s : I) (xs : List A) (t : I) (x : A) (u : I) → Yields gives s xs t → gives t (Some x) u → Yields gives s (xs ++ x ∷ []) u
  yields-more s [] t x u same step = (u, subst (λ z. gives z (Some x) u) (sym same) step, refl)
  yields-more s (y ∷ xs) t x u (j, first, rest) step = (j, first, yields-more j xs t x u rest step)

  -- an item and all others after the first ones
  pub drains-joined : (s : I) (xs : List A) (t : I) (x : A) (u : I) (ys : List A) → Yields gives s xs t → gives t (Some x) u → Drains gives u ys
      → Drains gives s (xs ++ x ∷ ys)
  drains-joined s [] t x u ys same step (v, (w, rest, none)) = (v, (w, (u, subst (λ z. gives z (Some x) u) (sym same) step, rest), none))
  drains-joined s (y ∷ xs) t x u ys (j, first, more) step rest =
      let k = drains-joined j xs t x u ys more step rest in (k.0, (k.1.0, (j, first, k.1.1), k.1.2))
