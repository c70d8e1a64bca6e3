-- Two heads with variables that a comparison tells apart have no instance in common.
use Rattle.std.proofs.Common.{◌≡◌, ◌+◌, ◌<◌, ◌≤◌, inl, inr, ℕ, zero, suc, List, [], ◌∷◌, ◌++◌, length, refl, ap, sym, ◌∙◌, subst, arith}
use Rattle.std.specs.Prelude.{Bool, false, IsTrue, Some, slice_get}
use Rattle.std.proofs.lemmas.List.{length-append}
use Rattle.std.proofs.lemmas.Option.{slice_get_within}
use Rattle.tt_kinds.specs.Argument.{Argument}
use Rattle.tt_kinds.specs.Shape.{fill}
use Rattle.tt_kinds.specs.Tree.{Depth, Place, Tree}
use Rattle.tt_kinds.specs.Values.{trait_predicate_shape}
use Rattle.tt_kinds.specs.declared.predicate.TraitPredicate.{TraitPredicate}
use Rattle.tt_kinds.proofs.ReadingLaws.{read-injective}
use Rattle.tt_interner.specs.Owned.{tree_by}
use Rattle.tt_interner.specs.Stored.{Extends, Terms}
use Rattle.unify.specs.Substitution.{Assignment, Solves, Substitution, assign}
use Rattle.solver.specs.Answers.{assigned}
use Rattle.solver.specs.Derivations.{AreArguments, IsTypeArgument, instance_of}
use Rattle.solver.specs.Overlap.{AppliesTo, AreApart, IsCoherent}
use Rattle.solver.specs.Program.{IsOwnedImpl, goal_in, impl_in, impls_in}
use Rattle.solver.specs.Refutation.{EquatesGoals, IsForced, variables_from}
use Rattle.solver.specs.Written.{IsWritten}
use Rattle.solver.specs.declared.program.Impl.{Impl}
use Rattle.solver.proofs.AssignLaws.{read_assign}
use Rattle.solver.proofs.DerivationLaws.{found_before}
use Rattle.solver.proofs.HeadLaws.{as_given, given_assignment, given_at, given_own, instance_assigned}
use Rattle.solver.proofs.OutcomeLaws.{below_next, found_mapped}
use Rattle.solver.proofs.ProgramLaws.{impl_stays}

found_behind : {X : Type 0} (xs ys : List X) (k w : ℕ) (x : X) → slice_get ys k ≡ Some x → w ≡ length xs + k → slice_get (xs ++ ys) w ≡ Some x
found_behind [] ys k w x at is = let same : w ≡ k = omega (arith, is) in ap (slice_get ys) same ∙ at
found_behind (y ∷ xs) ys k zero x at is = absurd (omega (arith, is))
found_behind (y ∷ xs) ys k (suc w) x at is = found_behind xs ys k w x at (omega (arith, is))

module _ (P : Argument Depth → Type 0) where
  all_of_both : (xs ys : List (Argument Depth)) → ((k : ℕ) (x : Argument Depth) → slice_get xs k ≡ Some x → P x)
      → ((k : ℕ) (x : Argument Depth) → slice_get ys k ≡ Some x → P x) → (k : ℕ) (x : Argument Depth) → slice_get (xs ++ ys) k ≡ Some x → P x
  all_of_both [] ys first second k x at = second k x at
  all_of_both (y ∷ xs) ys first second zero x at = first zero x at
  all_of_both (y ∷ xs) ys first second (suc k) x at = all_of_both xs ys (λ j. first (suc j)) second k x at

-- arguments for some parameters and arguments for others are arguments for all of them
arguments_of_both : (n m : ℕ) (lefts rights : List (Argument Depth)) → AreArguments n lefts → AreArguments m rights
    → AreArguments (n + m) (lefts ++ rights)
arguments_of_both n m lefts rights first second = record {
  counted = let l = first.counted in let r = second.counted in let both = length-append lefts rights in omega (arith, l, r, both);
  each = all_of_both IsTypeArgument lefts rights first.each second.each;
}

-- goals with an instance in common are about one trait
instances_of_one_trait : (terms : Terms) (lefts rights : List (Argument Depth)) (a b : TraitPredicate)
    → instance_of lefts (goal_in terms a) ≡ instance_of rights (goal_in terms b) → a.trait_ref.def_id.number ≡ b.trait_ref.def_id.number
unfolding fill
instances_of_one_trait terms lefts rights a b same = cc

-- implementations of different traits are apart
pub traits_apart : (terms : Terms) (left right : Impl) → (left.head.trait_ref.def_id.number ≡ right.head.trait_ref.def_id.number → ⊥)
    → AreApart (impl_in terms left) (impl_in terms right)
traits_apart terms left right differ goal first second =
    differ (instances_of_one_trait terms first.0 second.0 left.head right.head (sym first.2 ∙ second.2))

-- what a comparison of two heads finds out: `between` is when the heads were made and compared
module _ (old between : Terms) (left right : Impl) (left_written : IsWritten (impl_in old left)) (right_written : IsWritten (impl_in old right))
    (head other : TraitPredicate) (head_plain : goal_in between head ≡ instance_of (variables_from 0 left.params) (goal_in old left.head))
    (other_plain : goal_in between other ≡ instance_of (variables_from left.params right.params) (goal_in old right.head))
    (σ later : Substitution) (free : (ρ : Assignment) → Solves ρ σ) (found : Bool)
    (forced : IsForced (left.params + right.params) σ (EquatesGoals between head other) found later) where
  -- types for the variables of both heads that make the heads one goal make the comparison succeed
  compared : (lefts rights : List (Argument Depth)) → AreArguments left.params lefts → AreArguments right.params rights
      → instance_of lefts (goal_in old left.head) ≡ instance_of rights (goal_in old right.head) → IsTrue found
  compared lefts rights mine others same =
      let args = lefts ++ rights in
      let all = arguments_of_both left.params right.params lefts rights mine others in
      let n = left.params + right.params in
      let ρ = as_given args in
      let assignment = given_assignment n args all in
      let t = tree_by trait_predicate_shape between.rows head in
      let u = tree_by trait_predicate_shape between.rows other in
      let first = instance_assigned ρ assignment 0 left.params lefts mine
      (λ k w a at is. given_at n args all w k a (found_before lefts rights k a at) (let s : w ≡ k = omega (arith, is) in s))
      (goal_in old left.head) left_written.head in
      let second = instance_assigned ρ assignment left.params right.params rights others
      (λ k w a at is. given_at n args all w w a
      (found_behind lefts rights k w a at (let counted = mine.counted in let s : w ≡ length lefts + k = omega (arith, is, counted) in s)) refl)
      (goal_in old right.head) right_written.head in
      let equal : assign ρ t ≡ assign ρ u = read-injective 0 (assign ρ t) (assign ρ u)
      (read_assign ρ assignment 0 t ∙ ap (assigned ρ) head_plain ∙ first ∙ same ∙ sym second ∙ sym (ap (assigned ρ) other_plain)
      ∙ sym (read_assign ρ assignment 0 u)) in
      (forced ρ (record { own = given_own n args all; closed = assignment.closed; solves = free ρ }) equal).0

  -- so where it fails, they are apart
  pub heads_apart : found ≡ false → AreApart (impl_in old left) (impl_in old right)
  heads_apart not_found goal first second =
      absurd (let f = compared first.0 second.0 first.1 second.1 (sym first.2 ∙ second.2) in cc)

-- an implementation that applies to a goal did so before the interner grew
pub applies_before : (old new : Terms) (extends : Extends old new) (i : Impl) (goal : Tree Place) → IsOwnedImpl old i
    → AppliesTo (impl_in new i) goal → AppliesTo (impl_in old i) goal
applies_before old new extends i goal owned applies = subst (λ x. AppliesTo x goal) (impl_stays old new extends i owned) applies

-- implementations that are apart were so before the interner grew
pub apart_before : (old new : Terms) (extends : Extends old new) (left right : Impl) → IsOwnedImpl old left → IsOwnedImpl old right
    → AreApart (impl_in new left) (impl_in new right) → AreApart (impl_in old left) (impl_in old right)
apart_before old new extends left right mine others apart =
    subst (λ i. AreApart i (impl_in old right)) (impl_stays old new extends left mine)
    (subst (AreApart (impl_in new left)) (impl_stays old new extends right others) apart)

-- each of the first n implementations is apart from those before it
abbrev pub AreApartBelow : Terms → List Impl → ℕ → Type 0
AreApartBelow terms impls n = (k : ℕ) (l : Impl) → k < n → slice_get impls k ≡ Some l → (j : ℕ) (i : Impl) → j < k → slice_get impls j ≡ Some i
    → AreApart (impl_in terms i) (impl_in terms l)

-- and so with one more
pub apart_next : (terms : Terms) (impls : List Impl) (n : ℕ) (l : Impl) → AreApartBelow terms impls n → slice_get impls n ≡ Some l
    → ((j : ℕ) (i : Impl) → j < n → slice_get impls j ≡ Some i → AreApart (impl_in terms i) (impl_in terms l))
    → AreApartBelow terms impls (suc n)
apart_next terms impls n l below at apart = λ k other less there j i under found.
    elim (below_next k n less) [
      | inl older ↦ below k other older there j i under found
      | inr same ↦ (
          let this : l ≡ other = let p = ap (slice_get impls) same in cc in
          subst (λ x. AreApart (impl_in terms i) (impl_in terms x)) this (apart j i (omega (arith, same, under)) found))
    ]

-- a program of which each implementation is apart from those before it is coherent
pub coherent : (terms : Terms) (impls : List Impl) (n : ℕ) → length impls ≤ n → AreApartBelow terms impls n → IsCoherent (impls_in terms impls)
coherent terms impls n all below j k i l less first second =
    let a = found_mapped (impl_in terms) impls j i first in
    let b = found_mapped (impl_in terms) impls k l second in
    subst (λ x. AreApart x l) a.2 (subst (AreApart (impl_in terms a.0)) b.2
    (below k b.0 (let within = slice_get_within impls k b.0 b.1 in omega (arith, within, all)) b.1 j a.0 less a.1))
