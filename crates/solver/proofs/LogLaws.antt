-- Lines of a log, and what follows from them.
use Rattle.std.proofs.Common.{◌≡◌, ℕ, zero, suc, ◌<◌, ◌≤◌, List, [], ◌∷◌, length, map, take, subst, arith}
use Rattle.std.proofs.Common.{inl, inr, ◌⊎◌}
use Rattle.std.specs.Prelude.{Some, slice_get}
use Rattle.std.proofs.lemmas.Option.{slice_get_within}
use Rattle.tt_kinds.specs.Handle.{GenericArgs}
use Rattle.tt_kinds.specs.Tree.{Place, Tree}
use Rattle.tt_kinds.specs.declared.predicate.TraitPredicate.{TraitPredicate}
use Rattle.tt_interner.specs.Stored.{Terms}
use Rattle.solver.specs.Derivations.{AreArguments, Derives, assumed, implemented, instance_of}
use Rattle.solver.specs.Log.{AreDerived, AreMet, AreOwnedLines}
use Rattle.solver.specs.Program.{argument_trees, goal_in, goals_in, impl_in, impls_in}
use Rattle.solver.specs.declared.log.Line.{Line}
use Rattle.solver.specs.declared.program.Impl.{Impl}
use Rattle.solver.proofs.OutcomeLaws.{found_map, found_mapped}

-- an item of the first ones is an item
pub found_of_first : {X : Type 0} (n : ℕ) (xs : List X) (k : ℕ) (x : X) → slice_get (take n xs) k ≡ Some x → slice_get xs k ≡ Some x
found_of_first zero xs k x at = absurd (cc)
found_of_first (suc n) [] k x at = absurd (cc)
found_of_first (suc n) (y ∷ xs) zero x at = at
found_of_first (suc n) (y ∷ xs) (suc k) x at = found_of_first n xs k x at

-- an item of one more is one of the first ones, or the next
pub first_or_next : {X : Type 0} (n : ℕ) (xs : List X) (k : ℕ) (x : X) → slice_get (take (suc n) xs) k ≡ Some x
    → (slice_get (take n xs) k ≡ Some x) ⊎ (slice_get xs n ≡ Some x)
first_or_next n [] k x at = absurd (cc)
first_or_next zero (y ∷ xs) zero x at = inr at
first_or_next zero (y ∷ xs) (suc k) x at = absurd (cc)
first_or_next (suc n) (y ∷ xs) zero x at = inl at
first_or_next (suc n) (y ∷ xs) (suc k) x at = first_or_next n xs k x at

-- an item is one of the first ones, if there are as many
pub first_of_found : {X : Type 0} (n : ℕ) (xs : List X) (k : ℕ) (x : X) → k < n → slice_get xs k ≡ Some x → slice_get (take n xs) k ≡ Some x
first_of_found zero xs k x less at = absurd (omega (arith, less))
first_of_found (suc n) [] k x less at = absurd (cc)
first_of_found (suc n) (y ∷ xs) zero x less at = at
first_of_found (suc n) (y ∷ xs) (suc k) x less at = first_of_found n xs k x (omega (arith, less)) at

-- what holds of as many lines as there are holds of all
pub all_derived : (terms : Terms) (impls : List Impl) (assumptions : List TraitPredicate) (lines : List Line) (n : ℕ) → length lines ≤ n
    → AreDerived terms impls assumptions (take n lines) → AreDerived terms impls assumptions lines
all_derived terms impls assumptions lines n all first = λ k line at.
    first k line (first_of_found n lines k line (let within = slice_get_within lines k line at in omega (arith, within, all)) at)

-- the first lines are the interner's, if all are
pub first_owned : (terms : Terms) (lines : List Line) (n : ℕ) → AreOwnedLines terms lines → AreOwnedLines terms (take n lines)
first_owned terms lines n owned = λ k line at. owned k line (found_of_first n lines k line at)

-- with the next line derived, one more line is
pub derived_next : (terms : Terms) (impls : List Impl) (assumptions : List TraitPredicate) (lines : List Line) (n : ℕ) (line : Line)
    → slice_get lines n ≡ Some line → AreDerived terms impls assumptions (take n lines)
    → Derives (impls_in terms impls) (goals_in terms assumptions) (goal_in terms line.goal)
    → AreDerived terms impls assumptions (take (suc n) lines)
derived_next terms impls assumptions lines n line at first next = λ k other there.
    elim (first_or_next n lines k other there) [
      | inl earlier ↦ first k other earlier
      | inr same ↦ (
          let is : line ≡ other = cc in
          subst (λ (l : Line). Derives (impls_in terms impls) (goals_in terms assumptions) (goal_in terms l.goal)) is next)
    ]

-- an assumption is derived
pub assumption_derived : (terms : Terms) (impls : List Impl) (assumptions : List TraitPredicate) (k : ℕ) (goal : TraitPredicate)
    → slice_get assumptions k ≡ Some goal → Derives (impls_in terms impls) (goals_in terms assumptions) (goal_in terms goal)
assumption_derived terms impls assumptions k goal at = assumed k (found_map (goal_in terms) assumptions k goal at)

-- the head's instance is derived, where each condition's instance is the goal of a derived line
pub instance_derived : (terms : Terms) (impls : List Impl) (assumptions : List TraitPredicate) (lines : List Line) (k : ℕ) (i : Impl)
    (args : GenericArgs) (goal : TraitPredicate) → slice_get impls k ≡ Some i → AreArguments i.params (argument_trees terms args)
    → goal_in terms goal ≡ instance_of (argument_trees terms args) (goal_in terms i.head)
    → AreMet terms i.conditions.items args lines → AreDerived terms impls assumptions lines
    → Derives (impls_in terms impls) (goals_in terms assumptions) (goal_in terms goal)
instance_derived terms impls assumptions lines k i args goal at are is met derived =
    implemented k (impl_in terms i) (found_map (impl_in terms) impls k i at) (argument_trees terms args) are is each
  where
    read : TraitPredicate → Tree Place
    read c = goal_in terms c

    each : (j : ℕ) (r : Tree Place) → slice_get (map read i.conditions.items) j ≡ Some r
        → Derives (impls_in terms impls) (goals_in terms assumptions) (instance_of (argument_trees terms args) r)
    each j r there =
        let found = found_mapped read i.conditions.items j r there in
        let line = met j found.0 found.1 in
        subst (λ x. Derives (impls_in terms impls) (goals_in terms assumptions) (instance_of (argument_trees terms args) x)) found.2
        (subst (Derives (impls_in terms impls) (goals_in terms assumptions)) line.3 (derived line.0 line.1 line.2))
