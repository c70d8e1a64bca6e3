-- Lists under distinct keys, as one list of pairs.
use Rattle.std.proofs.Common.{◌≡◌, inl, inr, List, [], ◌∷◌, ◌++◌, map, length, length-append, append_assoc, arith, refl}
use Rattle.std.proofs.Common.{sym, ap, ◌∙◌}
use Rattle.std.specs.Map.{keys_of}
use Rattle.tt_fold.specs.Places.{IsIn, AreDistinct}
use Rattle.tt_fold.proofs.PlaceLaws.{IsIn-append}

module _ {A : Type 0} where
  -- the items of two lists of distinct items are distinct together if no item is in both lists
  pub AreDistinct-append : (xs ys : List A) → AreDistinct xs → AreDistinct ys → ((x : A) → IsIn x xs → IsIn x ys → ⊥) → AreDistinct (xs ++ ys)
  AreDistinct-append [] ys d e apart = e
  AreDistinct-append (x ∷ xs) ys d e apart = (
    λ h. elim (IsIn-append x xs ys h) [ inl a ↦ d.0 a | inr b ↦ apart x (inl refl) b ],
    AreDistinct-append xs ys d.1 e (λ y h. apart y (inr h)),
  )

module _ {K X : Type 0} where
  -- each item beside its key
  abbrev pub beside : K → List X → List (K × X)
  beside k xs = map (λ x. (k, x)) xs

  -- all items of the lists, each beside its list's key
  abbrev pub tagged : List (K × List X) → List (K × X)
  tagged [] = []
  tagged (e ∷ l) = beside e.0 e.1 ++ tagged l

  IsIn-beside : (p : K × X) (k : K) (xs : List X) → IsIn p (beside k xs) → (p.0 ≡ k) × IsIn p.1 xs
  IsIn-beside p k [] h = absurd h
  IsIn-beside p k (x ∷ xs) (inl e) = (ap (λ q. q.0) e, inl (ap (λ q. q.1) e))
  IsIn-beside p k (x ∷ xs) (inr h) = let r = IsIn-beside p k xs h in (r.0, inr r.1)

  AreDistinct-beside : (k : K) (xs : List X) → AreDistinct xs → AreDistinct (beside k xs)
  AreDistinct-beside k [] d = tt
  AreDistinct-beside k (x ∷ xs) d = (λ h. d.0 (IsIn-beside (k, x) k xs h).1, AreDistinct-beside k xs d.1)

  IsIn-keys : (p : K × X) (l : List (K × List X)) → IsIn p (tagged l) → IsIn p.0 (keys_of l)
  IsIn-keys p [] h = absurd h
  IsIn-keys p (e ∷ l) h = elim (IsIn-append p (beside e.0 e.1) (tagged l) h) [
    | inl a ↦ inl (IsIn-beside p e.0 e.1 a).0
    | inr b ↦ inr (IsIn-keys p l b)
  ]

  -- lists of distinct items under distinct keys make a list of distinct pairs
  pub AreDistinct-tagged : (l : List (K × List X)) → AreDistinct (keys_of l) → ((e : K × List X) → IsIn e l → AreDistinct e.1) → AreDistinct (tagged l)
  AreDistinct-tagged [] d each = tt
  AreDistinct-tagged (e ∷ l) d each =
      AreDistinct-append (beside e.0 e.1) (tagged l) (AreDistinct-beside e.0 e.1 (each e (inl refl))) (AreDistinct-tagged l d.1 (λ f h. each f (inr h)))
      (λ p a b. d.0 (rw (← (IsIn-beside p e.0 e.1 a).0) (IsIn-keys p l b)))

  -- the items of two lists of lists, beside their keys, are those of the first and then of the second
  pub tagged-append : (l m : List (K × List X)) → tagged (l ++ m) ≡ tagged l ++ tagged m
  tagged-append [] m = refl
  tagged-append (e ∷ l) m = ap (λ xs. beside e.0 e.1 ++ xs) (tagged-append l m) ∙ sym (append_assoc (beside e.0 e.1) (tagged l) (tagged m))

  length-beside : (k : K) (xs : List X) → length (beside k xs) ≡ length xs
  length-beside k [] = refl
  length-beside k (x ∷ xs) = omega (arith, length-beside k xs)

  -- one list under a key has its length
  pub length-tagged : (k : K) (xs : List X) → length (tagged ((k, xs) ∷ [])) ≡ length xs
  length-tagged k xs = omega (arith, length-append (beside k xs) [], length-beside k xs)

  -- a pair comes of its key's list
  pub IsIn-tagged : (p : K × X) (l : List (K × List X)) → IsIn p (tagged l) → (e : K × List X) × (IsIn e l × (p.0 ≡ e.0) × IsIn p.1 e.1)
  IsIn-tagged p [] h = absurd h
  IsIn-tagged p (e ∷ l) h = elim (IsIn-append p (beside e.0 e.1) (tagged l) h) [
    | inl a ↦ (let r = IsIn-beside p e.0 e.1 a in (e, (inl refl, r.0, r.1)))
    | inr b ↦ (let r = IsIn-tagged p l b in (r.0, (inr r.1.0, r.1.1, r.1.2)))
  ]
