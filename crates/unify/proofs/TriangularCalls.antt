-- The promises of a call of `unify`, from what its loop over pairs and its search give.
use Rattle.std.proofs.Common.{◌≡◌, refl, ℕ, [], ◌+◌, ◌<◌, ◌≤◌, Option, Some, None, subst, ◌⊎◌, inl, inr, arith}
use Rattle.tt_kinds.specs.Tree.{Depth, Tree}
use Rattle.unify.specs.Substitution.{Substitution, Assignment, apply, assign, IsWithout, Refines, Solves}
use Rattle.unify.specs.Substitution.{IsMostGeneral, IsOwn, HasNoUnifier, HasNoOwnUnifier}
use Rattle.unify.specs.Triangular.{Represents, IsBelow, IsAcyclic, BindsBelow, model, Holds, Pairs, Rests, Linked}
use Rattle.unify.specs.Triangular.{Searched}
use Rattle.unify.proofs.OccursLaws.{IsProper, AllProper}
use Rattle.unify.proofs.TriangularLaws.{model_represents, model_solved, model_refines, entries_solved}
use Rattle.unify.proofs.TriangularSteps.{is_without}
use Rattle.unify.proofs.TriangularPairs.{unified}

-- a variable's rank: the search's, or the old one above all of these
ranked : ℕ → ℕ → Option ℕ → ℕ
ranked next old (Some r) = r
ranked next old None = old + next

module _ (later : Substitution) (rank : ℕ → ℕ) (found : ℕ → Option ℕ) (next : ℕ)
    (searched : Searched later found next)
    (unmet : (v : ℕ) (t : Tree Depth) → found v ≡ None → later v ≡ Some t → IsBelow rank (rank v) t) where
  -- a variable in the tree that isn't without it
  met_below : (t : Tree Depth) (r w : ℕ) → ((u : ℕ) → Holds u t → (q : ℕ) × ((found u ≡ Some q) × (q < r)))
      → r ≤ ranked next (rank w) (found w) → IsWithout w t ⊎ (IsWithout w t → ⊥) → IsWithout w t
  unfolding ranked
  met_below t r w above h (inl lacks) = lacks
  met_below t r w above h (inr held) =
      let q = above w held in
      let low : r ≤ q.0 = subst (λ o. r ≤ ranked next (rank w) o) q.1.0 h in
      absurd (omega (arith, q.1.1))

  old_below : (t : Tree Depth) (v w : ℕ) → IsBelow rank (rank v) t → (o : Option ℕ) → found w ≡ o
      → rank v + next ≤ ranked next (rank w) o → IsWithout w t
  unfolding ranked
  old_below t v w falls (Some r) e h = let less = searched.below w r e in absurd (omega arith)
  old_below t v w falls None e h = falls w (omega arith)

  falls_by : (v : ℕ) (t : Tree Depth) → later v ≡ Some t → (o : Option ℕ) → found v ≡ o
      → (w : ℕ) → ranked next (rank v) o ≤ ranked next (rank w) (found w) → IsWithout w t
  unfolding ranked
  falls_by v t is (Some r) e w h =
      met_below t r w (λ u held. searched.above v r e u (t, (is, held))) h (is_without w t)
  falls_by v t is None e w h = old_below t v w (unmet v t e is) (found w) refl h

  -- a search that ends without a cycle, and has met each variable whose entry doesn't fall, ranks the entries
  pub search_ranks : IsAcyclic later
  search_ranks = record {
    rank = λ v. ranked next (rank v) (found v);
    falls = λ v t is w h. falls_by v t is (found v) refl w h;
  }

-- so does a search that has met each variable that was bound anew, where the old entries were acyclic
pub search_acyclic : (entries later : Substitution) (found : ℕ → Option ℕ) (next : ℕ) → IsAcyclic entries
    → Searched later found next
    → ((v : ℕ) (t : Tree Depth) → later v ≡ Some t → (entries v ≡ Some t) ⊎ ((r : ℕ) × (found v ≡ Some r)))
    → IsAcyclic later
search_acyclic entries later found next acyclic searched met =
    search_ranks later acyclic.rank found next searched (λ v t none is. elim (met v t is) [
      | inl old ↦ acyclic.falls v t old
      | inr new ↦ absurd (let some = new.1 in cc)
    ])

module _ (entries later : Substitution) (n m : ℕ) (before : IsAcyclic entries) (after : IsAcyclic later)
    (few : BindsBelow n entries) (more : BindsBelow m later) where
  old_represents : Represents entries (model n entries)
  old_represents = model_represents before.rank entries before.falls n few

  new_represents : Represents later (model m later)
  new_represents = model_represents after.rank later after.falls m more

  -- bindings only grow
  pub refines : ((v : ℕ) (t : Tree Depth) → entries v ≡ Some t → later v ≡ Some t)
      → Refines (model n entries) (model m later)
  refines kept =
      model_refines before.rank entries before.falls (model n entries) old_represents later (model m later)
      new_represents kept

  -- the new bindings make the two types equal: no second look is needed
  pub makes_equal : AllProper later → (P C : Pairs) → Rests later P C → ((t u : Tree Depth) → P t u → ⊥)
      → (t u : Tree Depth) → IsProper t → IsProper u → Linked later P C t u
      → apply (model m later) t ≡ apply (model m later) u
  makes_equal proper P C rests empty t u first second link =
      unified later (model m later) new_represents proper P C rests empty t u first second link

  -- and they are the most general, where the loop has kept the solutions
  pub is_general : (t u : Tree Depth)
      → ((ρ : Assignment) → Solves ρ entries → assign ρ t ≡ assign ρ u → Solves ρ later)
      → IsMostGeneral (model n entries) t u (model m later)
  is_general t u keeps ρ solves equal =
      model_solved after.rank later after.falls (model m later) new_represents ρ
      (keeps ρ (entries_solved entries (model n entries) old_represents ρ solves) equal)

  -- where nothing solves the entries and makes two trees equal, they have no unifier
  pub no_unifier : (t u : Tree Depth) → ((ρ : Assignment) → Solves ρ entries → assign ρ t ≡ assign ρ u → ⊥)
      → HasNoUnifier (model n entries) t u
  no_unifier t u never ρ solves = never ρ (entries_solved entries (model n entries) old_represents ρ solves)

  -- the same for assignments to the first k variables alone
  pub no_own_unifier : (k : ℕ) (t u : Tree Depth)
      → ((ρ : Assignment) → IsOwn k ρ → Solves ρ entries → assign ρ t ≡ assign ρ u → ⊥)
      → HasNoOwnUnifier k (model n entries) t u
  no_own_unifier k t u never ρ own solves =
      never ρ own (entries_solved entries (model n entries) old_represents ρ solves)
