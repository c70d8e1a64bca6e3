-- What the iterator of a copied slice gives.
use Rattle.std.proofs.Common.{◌≡◌, List, [], ◌∷◌, ◌++◌, length, refl, sym, ap, ◌∙◌, Iter, Bor}
use Rattle.std.specs.Prelude.{Option, Some, None}
use Rattle.std.specs.Option.{MatchOption, option_copied}
use Rattle.std.specs.Iterator.{Yields, Drains}
use Rattle.std.specs.declared.iter.Copied.{Copied}
use Rattle.std.proofs.lemmas.List.{append-nil}

module _ {A : Type 0} where
  -- the slice's item behind the reference, or none where there is no item
  abbrev IsNext : Copied (Iter A) → Copied (Iter A) → Option (Bor A) → Type 0
  IsNext s t x = MatchOption x ((length s.iter.rest.now ≡ 0) × (t.iter ≡ s.iter)) (λ y. s.iter.rest.now ≡ y.now ∷ t.iter.rest.now)

  -- one step of the iterator
  abbrev pub Steps : Copied (Iter A) → Option A → Copied (Iter A) → Type 0
  Steps s r t = (x : Option (Bor A)) × IsNext s t x × (r ≡ option_copied x)

  empty : (xs : List A) → length xs ≡ 0 → xs ≡ []
  empty [] h = refl
  empty (x ∷ xs) h = absurd (let no = h in cc)

  first : (s t : Copied (Iter A)) (x : A) (o : Option (Bor A)) → IsNext s t o → Some x ≡ option_copied o → s.iter.rest.now ≡ x ∷ t.iter.rest.now
  first s t x (Some y) is same = cc
  first s t x None is same = absurd (let no = same in cc)

  last : (s t : Copied (Iter A)) (o : Option (Bor A)) → IsNext s t o → None ≡ option_copied o → s.iter.rest.now ≡ []
  last s t (Some y) is same = absurd (let no = same in cc)
  last s t None is same = empty s.iter.rest.now is.0

  came : (xs : List A) (s t : Copied (Iter A)) → Yields Steps s xs t → s.iter.rest.now ≡ xs ++ t.iter.rest.now
  came [] s t e = ap (λ c. c.iter.rest.now) e
  came (x ∷ xs) s t h = first s h.0 x h.1.0 h.1.1 h.1.2 ∙ ap (◌∷◌ x) (came xs h.0 t h.2)

  -- all items of the slice, in order
  pub drained : (s : Copied (Iter A)) (xs : List A) → Drains Steps s xs → xs ≡ s.iter.rest.now
  drained s xs d = let end = d.1.2 in sym (came xs s d.1.0 d.1.1 ∙ ap (◌++◌ xs) (last d.1.0 d.0 end.0 end.1 end.2) ∙ append-nil xs)
