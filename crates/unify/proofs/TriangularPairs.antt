-- Each pair is compared once, and in the end all pairs are equal.
use Rattle.std.proofs.Common.{◌≡◌, refl, ℕ, zero, suc, ◌<◌, Option, Some, None, sym, subst, ap, ◌∙◌, ◌⊎◌, inl, inr}
use Rattle.std.proofs.Common.{arith}
use Rattle.tt_kinds.specs.Label.{Name, Label}
use Rattle.tt_kinds.specs.Tree as tree
use Rattle.tt_kinds.specs.Tree.{Depth, Tree, Forest}
use Rattle.unify.specs.Substitution.{Substitution, Assignment, bound_to, or_else, apply, every, assign, assign_all}
use Rattle.unify.specs.Substitution.{Solves, variable_tree, as_assignment}
use Rattle.unify.specs.Triangular.{resolved, Represents, weight, weights, Pairs, Below, Rests, Linked}
use Rattle.unify.specs.Triangular.{is_pending, is_compared, is_equal, looked_up, by_parts, HasParts, are_one, in_term}
use Rattle.unify.specs.Triangular.{in_node, in_binder, AreLinked, done, next, Steps}
use Rattle.unify.proofs.OccursLaws.{IsProper, AllProper}
use Rattle.unify.proofs.OwnSolution.{assigned_applies}

module _ (ρ : Assignment) (n : ℕ) (entries : Substitution) (P C : Pairs) (solves : Solves ρ entries)
    (pending : Below ρ n P) (compared : Below ρ n C) where
  term_equal : (l : Label Name) (ts us : Forest Depth) (o : Option (Tree Depth)) → bound_to (every ρ) l ≡ o
      → (weights (assign_all ρ ts) < n → assign_all ρ ts ≡ assign_all ρ us)
      → weight (assign ρ (tree.term l ts)) < suc n → assign ρ (tree.term l ts) ≡ assign ρ (tree.term l us)
  term_equal l ts us None e equal less =
      let small : weight (tree.term l (assign_all ρ ts)) < suc n = rw e at less in
      rw e (ap (tree.term l) (equal (omega arith)))
  term_equal l ts us (Some b) e equal less = rw e refl

  mutual
    -- a linked pair is equal where the pending and the compared ones are
    linked_equal : {t u : Tree Depth} → Linked entries P C t u → weight (assign ρ t) < n → assign ρ t ≡ assign ρ u
    linked_equal {t} {u} (is_pending p) less = pending t u p less
    linked_equal {t} {u} (is_compared c) less = compared t u c less
    linked_equal (is_equal e) less = e ρ solves
    linked_equal (looked_up a b left right link) less =
        let small : weight (assign ρ a) < n = subst (λ x. weight x < n) (left ρ solves) less in
        left ρ solves ∙ linked_equal link small ∙ sym (right ρ solves)
    linked_equal (by_parts h) less = parts_equal h (omega arith)

    -- so is a pair of one node more whose parts are linked
    parts_equal : {t u : Tree Depth} → HasParts entries P C t u → weight (assign ρ t) < suc n → assign ρ t ≡ assign ρ u
    parts_equal are_one less = refl
    parts_equal (in_term {l} {ts} {us} h) less = term_equal l ts us (bound_to (every ρ) l) refl (all_equal h) less
    parts_equal (in_node {l} h) less = ap (tree.node l) (all_equal h (omega arith))
    parts_equal (in_binder {vs} h) less = ap (tree.binder vs) (linked_equal h (omega arith))

    all_equal : {ts us : Forest Depth} → AreLinked entries P C ts us → weights (assign_all ρ ts) < n
        → assign_all ρ ts ≡ assign_all ρ us
    all_equal done less = refl
    all_equal (next h hs) less =
        let first = linked_equal h (omega arith) in
        let rest = all_equal hs (omega arith) in
        rw (first, rest) refl

module _ (entries later : Substitution) (P C P' C' : Pairs) (step : Steps entries P C later P' C') where
  noted_equal : Rests entries P C → (ρ : Assignment) → Solves ρ later → (n : ℕ) → Below ρ n P' → Below ρ n C'
      → (t u : Tree Depth) → C t u ⊎ HasParts later P' C' t u → weight (assign ρ t) < suc n → assign ρ t ≡ assign ρ u
  noted_equal rests ρ solves n pending compared t u (inl c) less =
      rests ρ (step.solves ρ solves) n
      (λ a b p h. linked_equal ρ n later P' C' solves pending compared (step.linked a b p) h)
      (λ a b c' h. compared a b (step.kept a b c') h) t u c less
  noted_equal rests ρ solves n pending compared t u (inr parts) less =
      parts_equal ρ n later P' C' solves pending compared parts less

  -- a step keeps that compared pairs rest on their parts
  pub rests_further : Rests entries P C → Rests later P' C'
  rests_further rests ρ solves n pending compared t u c less =
      noted_equal rests ρ solves n pending compared t u (step.noted t u c) less

  mutual
    -- and that a pair is linked
    pub linked_further : {t u : Tree Depth} → Linked entries P C t u → Linked later P' C' t u
    linked_further {t} {u} (is_pending p) = step.linked t u p
    linked_further {t} {u} (is_compared c) = is_compared (step.kept t u c)
    linked_further (is_equal e) = is_equal (λ ρ s. e ρ (step.solves ρ s))
    linked_further (looked_up a b left right link) =
        looked_up a b (λ ρ s. left ρ (step.solves ρ s)) (λ ρ s. right ρ (step.solves ρ s)) (linked_further link)
    linked_further (by_parts h) = by_parts (parts_further h)

    parts_further : {t u : Tree Depth} → HasParts entries P C t u → HasParts later P' C' t u
    parts_further are_one = are_one
    parts_further (in_term h) = in_term (all_further h)
    parts_further (in_node h) = in_node (all_further h)
    parts_further (in_binder h) = in_binder (linked_further h)

    all_further : {ts us : Forest Depth} → AreLinked entries P C ts us → AreLinked later P' C' ts us
    all_further done = done
    all_further (next h hs) = next (linked_further h) (all_further hs)

-- before the first step nothing is compared
pub rests_first : (entries : Substitution) (P : Pairs) → Rests entries P (λ t u. ⊥)
rests_first entries P ρ solves n pending compared t u none less = absurd none

module _ (entries : Substitution) (P C : Pairs) (rests : Rests entries P C)
    (empty : (t u : Tree Depth) → P t u → ⊥) where
  all_below : (ρ : Assignment) → Solves ρ entries → (n : ℕ) → Below ρ n C
  all_below ρ solves zero t u c less = absurd (omega arith)
  all_below ρ solves (suc n) t u c less =
      rests ρ solves n (λ a b p h. absurd (empty a b p)) (all_below ρ solves n) t u c less

  -- once no pair is pending, what solves the entries makes each linked pair equal
  pub finished : (ρ : Assignment) → Solves ρ entries → (t u : Tree Depth) → Linked entries P C t u
      → assign ρ t ≡ assign ρ u
  finished ρ solves t u link =
      let n = suc (weight (assign ρ t)) in
      linked_equal ρ n entries P C solves (λ a b p h. absurd (empty a b p)) (all_below ρ solves n) link (omega arith)

module _ (entries σ : Substitution) (represents : Represents entries σ) (proper : AllProper entries) where
  -- what the entries represent, as an assignment, solves them
  pub own_solves : Solves (as_assignment σ) entries
  own_solves v t is =
      ap (λ o. or_else o (variable_tree v)) (represents v ∙ ap (resolved σ) is)
      ∙ sym (assigned_applies σ t (proper v t is))

  -- so once no pair is pending, both sides resolve to one tree
  pub unified : (P C : Pairs) → Rests entries P C → ((t u : Tree Depth) → P t u → ⊥)
      → (t u : Tree Depth) → IsProper t → IsProper u → Linked entries P C t u → apply σ t ≡ apply σ u
  unified P C rests empty t u first second link =
      sym (assigned_applies σ t first) ∙ finished entries P C rests empty (as_assignment σ) own_solves t u link
      ∙ assigned_applies σ u second
