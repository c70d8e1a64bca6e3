-- Pairs whose children are the interner's.
use Rattle.std.proofs.Common.{◌≡◌, refl, ℕ, zero, suc, List, [], ◌∷◌, ◌++◌, slice_get, Some, Result, Ok, Err, IfOk, sym}
use Rattle.std.proofs.Common.{subst, ap, ◌∙◌}
use Rattle.std.proofs.lemmas.Option.{none-some, same_Some}
use Rattle.tt_kinds.specs.Shape.{AreParts, Sizes}
use Rattle.tt_kinds.specs.Kinds.{child_shapes, children_shapes}
use Rattle.tt_kinds.specs.declared.parts.Child.{Child}
use Rattle.tt_interner.specs.Rows.{size}
use Rattle.tt_interner.specs.Owned.{IsOwned, AreOwned}
use Rattle.tt_interner.specs.Stored.{Terms, Extends}
use Rattle.tt_interner.proofs.Growth.{fill_all-grows}
use Rattle.tt_interner.proofs.InfoLaws.{AreParts-append, AreParts-join}
use Rattle.tt_interner.proofs.OwnedLaws.{push_owned}
use Rattle.unify.specs.Pairs.{pair_shape, child_trees, Equates, EquatesAll}
use Rattle.unify.specs.Substitution.{Assignment, assign_all}
use Rattle.unify.specs.declared.pairs.Pair.{Pair}

-- a child of a list
pub child_parts : (sizes : Sizes) (cs : List Child) (i : ℕ) (c : Child) → slice_get cs i ≡ Some c → AreParts sizes (children_shapes cs) → AreParts sizes (child_shapes c)
child_parts sizes [] i c at parts = absurd (none-some c at)
child_parts sizes (x ∷ cs) zero c at parts =
    subst (λ k. AreParts sizes (child_shapes k)) (same_Some x c at) (AreParts-append sizes (child_shapes x) (children_shapes cs) parts).0
child_parts sizes (x ∷ cs) (suc i) c at parts =
    child_parts sizes cs i c at (AreParts-append sizes (child_shapes x) (children_shapes cs) parts).1

module _ (terms : Terms) where
  -- two children that are the interner's are such a pair
  pub pair_owned : (left right : Child) → AreParts (size terms.rows) (child_shapes left) → AreParts (size terms.rows) (child_shapes right)
      → IsOwned pair_shape terms (record { left = left; right = right })
  pair_owned left right l r = (refl, tt, AreParts-join (size terms.rows) (child_shapes left) (child_shapes right) l r)

  -- and back
  pub pair_parts : (p : Pair) → IsOwned pair_shape terms p → AreParts (size terms.rows) (child_shapes p.left) × AreParts (size terms.rows) (child_shapes p.right)
  pair_parts p owned = AreParts-append (size terms.rows) (child_shapes p.left) (child_shapes p.right) owned.2

  -- pairs with one more
  pub pairs_pushed : (ps qs : List Pair) (left right : Child) → qs ≡ ps ++ record { left = left; right = right } ∷ []
      → AreOwned pair_shape terms ps → AreParts (size terms.rows) (child_shapes left) → AreParts (size terms.rows) (child_shapes right) → AreOwned pair_shape terms qs
  pairs_pushed ps qs left right is owned l r =
      subst (AreOwned pair_shape terms) (sym is) (push_owned pair_shape terms ps (record { left = left; right = right }) owned (pair_owned left right l r))

-- what holds in any case holds of an outcome
pub if_ok : {T E A : Type 0} (r : Result T E) → A → IfOk r (λ x. A)
if_ok (Ok x) a = a
if_ok (Err e) a = tt

-- pairs without the last one, and the last one
pub pairs_popped : (terms : Terms) (ps : List Pair) (p : Pair) → AreOwned pair_shape terms (ps ++ p ∷ []) → AreOwned pair_shape terms ps × IsOwned pair_shape terms p
pairs_popped terms [] p owned = (tt, owned.0)
pairs_popped terms (x ∷ ps) p owned = let rest = pairs_popped terms ps p owned.1 in ((owned.0, rest.0), rest.1)

module _ (ρ : Assignment) where
  -- pairs with one more that is made equal
  pub equates_pushed : (terms : Terms) (ps qs : List Pair) (left right : Child) → qs ≡ ps ++ record { left = left; right = right } ∷ []
      → EquatesAll ρ terms ps → assign_all ρ (child_trees terms left) ≡ assign_all ρ (child_trees terms right) → EquatesAll ρ terms qs
  equates_pushed terms ps qs left right is equates same = subst (EquatesAll ρ terms) (sym is) (one_more terms ps left right equates same)
    where
      one_more : (terms : Terms) (ps : List Pair) (left right : Child) → EquatesAll ρ terms ps
          → assign_all ρ (child_trees terms left) ≡ assign_all ρ (child_trees terms right) → EquatesAll ρ terms (ps ++ record { left = left; right = right } ∷ [])
      one_more terms [] left right equates same = (same, tt)
      one_more terms (x ∷ ps) left right equates same = (equates.0, one_more terms ps left right equates.1 same)

  -- the pairs without the last one, and the last one
  pub equates_popped : (terms : Terms) (ps : List Pair) (p : Pair) → EquatesAll ρ terms (ps ++ p ∷ []) → EquatesAll ρ terms ps × Equates ρ terms p
  equates_popped terms [] p equates = (tt, equates.0)
  equates_popped terms (x ∷ ps) p equates = let rest = equates_popped terms ps p equates.1 in ((equates.0, rest.0), rest.1)

  module _ (old new : Terms) (extends : Extends old new) where
    child_grown : (c : Child) → AreParts (size old.rows) (child_shapes c) → child_trees new c ≡ child_trees old c
    child_grown c parts = fill_all-grows old.rows new.rows extends.rows (child_shapes c) parts

    -- whatever the interner builds, children that are made equal stay so
    pub equates_grown : (ps : List Pair) → AreOwned pair_shape old ps → EquatesAll ρ old ps → EquatesAll ρ new ps
    equates_grown [] owned equates = tt
    equates_grown (p ∷ ps) owned equates =
        let parts = pair_parts old p owned.0 in (
          ap (assign_all ρ) (child_grown p.left parts.0) ∙ equates.0 ∙ sym (ap (assign_all ρ) (child_grown p.right parts.1)),
          equates_grown ps owned.1 equates.1,
        )
