-- Iterators of lists of numbers, and what the iterators of binders make of them.
use Rattle.std.proofs.Common.{◌≡◌, ℕ, List, [], ◌∷◌, Option, Some, None, option_map, refl, ap, arith}
use Rattle.std.specs.Iterator.{YieldsFirst}
use Rattle.tt_kinds.specs.Handle.{handle}
use Rattle.tt_kinds.specs.BinderIter.{GivesUnderBinder}
use Rattle.tt_kinds.specs.EarlyBinderIter.{GivesEarly, GivesMarked, GivesCopied}
use Rattle.tt_kinds.specs.declared.binder.Binder.{Binder}
use Rattle.tt_kinds.specs.declared.binder_iter.BinderIter.{BinderIter}

-- an iterator that gives the numbers of a list in order
abbrev gives_list : {A : Type 0} → List A → Option A → List A → Type 0
gives_list = YieldsFirst (λ l. l)

-- the items of a list under a binder, and one item under one
abbrev under : ℕ → List ℕ → BinderIter (List ℕ)
under vars items = record { iter = items; bound_vars = handle vars }

abbrev item_under : ℕ → ℕ → Binder ℕ
item_under vars item = record { value = item; bound_vars = handle vars }

-- the first item comes under the binder's variables, and nothing comes at the end
first_comes : GivesUnderBinder gives_list (under 3 (7 ∷ 8 ∷ [])) (Some (item_under 3 7)) (under 3 (8 ∷ []))
    × GivesUnderBinder gives_list (under 3 []) None (under 3 [])
first_comes = ((refl, refl, refl), ((refl, refl), refl, tt))

-- an item comes under no other variables than the iterator's, and these don't change
variables_stay : (GivesUnderBinder gives_list (under 3 (7 ∷ [])) (Some (item_under 4 7)) (under 3 []) → ⊥)
    × (GivesUnderBinder gives_list (under 3 (7 ∷ [])) (Some (item_under 3 7)) (under 4 []) → ⊥)
variables_stay = (λ h. differ (ap (λ vars. vars.number) h.2), λ h. differ (ap (λ vars. vars.number) h.1)) where
  differ : ◌≡◌ {A = ℕ} 4 3 → ⊥
  differ e = omega arith

-- the items of a declared list come with their parameters still to be replaced, or marked as not normalized
declared_come : GivesEarly {A = ℕ} gives_list (record { t = 7 ∷ [] }) (Some (record { value = 7 })) (record { t = [] })
    × GivesMarked {A = ℕ} gives_list (record { iter = 7 ∷ [] }) (Some (record { value = 7 })) (record { iter = [] })
declared_come = (refl, refl)

-- an iterator of pairs, each of which dereferences to its second number
abbrev Copies : List (ℕ × ℕ) → Option ℕ → List (ℕ × ℕ) → Type 0
Copies pairs n rest =
    GivesCopied {A = ℕ × ℕ} gives_list (λ pair second. second ≡ pair.1)
    (record { it = pairs }) (option_map (λ second. record { value = second }) n) (record { it = rest })

-- of a pair the number comes that the pair dereferences to, and not the other one
copied_come : Copies ((6, 7) ∷ []) (Some 7) [] × (Copies ((6, 7) ∷ []) (Some 6) [] → ⊥)
copied_come = (((6, 7), refl, refl), λ h. refused h.0 h.1 h.2) where
  refused : (pair : ℕ × ℕ) → ◌≡◌ {A = List (ℕ × ℕ)} ((6, 7) ∷ []) (pair ∷ []) → 6 ≡ pair.1 → ⊥
  refused pair e d = let same : ◌≡◌ {A = ℕ × ℕ} (6, 7) pair = cc in let seven : 7 ≡ pair.1 = ap (λ p. p.1) same in omega arith
