-- Undoing bindings restores the entries.
use Rattle.std.proofs.Common.{◌≡◌, refl, ℕ, zero, suc, ◌-◌, ◌<◌, ◌≤◌, List, [], ◌∷◌, ◌++◌, length, set, get_or, take, drop}
use Rattle.std.proofs.Common.{Option, Some, None, sym, ap, ◌∙◌, arith}
use Rattle.std.proofs.lemmas.List.{drop-append-le, length-drop, length-set, take-append-le}
use Rattle.std.proofs.Math.Seq.{take-length}
use Rattle.unify.specs.Undo.{unbound, entries_at}

module _ {T : Type 0} where
  pub unbound_push : (vs : List ℕ) (v : ℕ) (es : List (Option T))
      → unbound (vs ++ v ∷ []) es ≡ unbound vs (set es v None)
  unbound_push [] v es = refl
  unbound_push (w ∷ vs) v es = ap (λ xs. set xs w None) (unbound_push vs v es)

  -- a binding is undone
  pub bound_undone : (es : List (Option T)) (v : ℕ) (t : T) → v < length es → get_or es v None ≡ None
      → set (set es v (Some t)) v None ≡ es
  bound_undone [] v t less free = refl
  bound_undone (e ∷ es) zero t less free = ap (λ x. x ∷ es) (sym free)
  bound_undone (e ∷ es) (suc v) t less free = ap (λ x. e ∷ x) (bound_undone es v t (omega (arith, less)) free)

  pub unbound_length : (vs : List ℕ) (es : List (Option T)) → length (unbound vs es) ≡ length es
  unbound_length [] es = refl
  unbound_length (v ∷ vs) es = length-set (unbound vs es) v None ∙ unbound_length vs es

  set_made : (es : List (Option T)) (v : ℕ) → set (es ++ None ∷ []) v None ≡ set es v None ++ None ∷ []
  set_made [] zero = refl
  set_made [] (suc v) = refl
  set_made (e ∷ es) zero = refl
  set_made (e ∷ es) (suc v) = ap (λ x. e ∷ x) (set_made es v)

  unbound_made : (vs : List ℕ) (es : List (Option T)) → unbound vs (es ++ None ∷ []) ≡ unbound vs es ++ None ∷ []
  unbound_made [] es = refl
  unbound_made (v ∷ vs) es = ap (λ xs. set xs v None) (unbound_made vs es) ∙ set_made (unbound vs es) v

  -- a variable that was made later is gone
  pub at_made : (n k : ℕ) (bound : List ℕ) (es : List (Option T)) → n ≤ length es
      → entries_at n k bound (es ++ None ∷ []) ≡ entries_at n k bound es
  at_made n k bound es within =
      let long = unbound_length (drop k bound) es in
      ap (take n) (unbound_made (drop k bound) es)
      ∙ take-append-le n (unbound (drop k bound) es) (None ∷ []) (omega (arith, within, long))

  -- and a binding that was made later is undone
  pub at_bound : (n k : ℕ) (bound : List ℕ) (v : ℕ) (t : T) (es : List (Option T)) → k ≤ length bound
      → v < length es → get_or es v None ≡ None
      → entries_at n k (bound ++ v ∷ []) (set es v (Some t)) ≡ entries_at n k bound es
  at_bound n k bound v t es within inside free =
      ap (λ vs. take n (unbound vs (set es v (Some t)))) (drop-append-le k bound (v ∷ []) within)
      ∙ ap (take n) (unbound_push (drop k bound) v (set es v (Some t)))
      ∙ ap (λ xs. take n (unbound (drop k bound) xs)) (bound_undone es v t inside free)

  -- the last binding that was listed is undone
  pub at_popped : (n k : ℕ) (bound : List ℕ) (v : ℕ) (es : List (Option T)) → k ≤ length bound
      → entries_at n k (bound ++ v ∷ []) es ≡ entries_at n k bound (set es v None)
  at_popped n k bound v es within =
      ap (λ vs. take n (unbound vs es)) (drop-append-le k bound (v ∷ []) within)
      ∙ ap (take n) (unbound_push (drop k bound) v es)

-- the rest of a list, taken as a part of the list
pub rest_is : {X : Type 0} (k : ℕ) (xs : List X) → take (length xs - k) (drop k xs) ≡ drop k xs
rest_is k xs = ap (λ n. take n (drop k xs)) (sym (length-drop k xs)) ∙ take-length (drop k xs)
