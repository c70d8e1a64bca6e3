-- Chains of variables, of which each is bound to the next one.
use Rattle.std.proofs.Common.{◌≡◌, refl, ℕ, Option, Some, None, IfSome, sym, subst, ap, ◌∙◌, inl, inr}
use Rattle.tt_kinds.specs.Tree.{Depth, Tree}
use Rattle.tt_kinds.specs.Kinds.{ty_shape}
use Rattle.tt_kinds.specs.Handle.{Ty}
use Rattle.tt_interner.specs.Rows.{meaning}
use Rattle.tt_interner.specs.Stored.{Terms}
use Rattle.tt_fold.specs.Steps.{tree_in}
use Rattle.unify.specs.Resolver.{linked_variable, IsLinked}
use Rattle.unify.specs.Search.{Reaches, child, further}
use Rattle.unify.specs.Substitution.{Substitution, Assignment, Solves, assign, variable_in}
use Rattle.unify.specs.Triangular.{links, link_of, only_link, IsChild}
use Rattle.unify.proofs.BindingsLaws.{bound_tree}
use Rattle.unify.proofs.LinkLaws.{proper_variable}
use Rattle.unify.proofs.OccursLaws.{AllProper}
use Rattle.unify.proofs.VariableSteps.{variable_held}

-- what is bound to a variable is bound to a tree
pub linked_tree : (o : Option (Tree Depth)) (w : ℕ) → linked_variable o ≡ Some w
    → (t : Tree Depth) × ((o ≡ Some t) × (variable_in t ≡ Some w))
linked_tree (Some t) w is = (t, (refl, is))
linked_tree None w is = absurd (cc)

-- what is bound to nothing isn't bound to a variable
pub unlinked : (o : Option (Tree Depth)) → ((t : Tree Depth) → o ≡ Some t → ⊥) → linked_variable o ≡ None
unlinked (Some t) never = absurd (never t refl)
unlinked None never = refl

-- what an entry says of the end of a chain
pub ends_at : (terms : Terms) (o : Option Ty) → linked_variable (bound_tree (meaning terms.rows) o) ≡ None
    → IfSome o (λ ty. variable_in (tree_in terms.rows (ty_shape ty)) ≡ None)
ends_at terms (Some ty) is = is
ends_at terms None is = tt

module _ (entries : Substitution) (v w : ℕ) (t : Tree Depth) (at : entries v ≡ Some t) (is : variable_in t ≡ Some w)
  where
    -- what solves the bindings gives both variables one tree
    pub link_assigned : AllProper entries → (ρ : Assignment) → Solves ρ entries → ρ w ≡ ρ v
    link_assigned proper ρ solves = sym (solves v t at ∙ ap (assign ρ) (proper_variable t w (proper v t at) is))

    link : IsChild (links entries) v w
    link = (t, (ap only_link at ∙ ap (λ o. link_of o t) is, λ without. variable_held t w w is refl without))

    -- a chain goes on with what its last variable is bound to
    pub linked_on : (first : ℕ) → IsLinked entries first v → IsLinked entries first w
    linked_on first (inl same) = inr (subst (λ u. Reaches (IsChild (links entries)) u w) same (child link))
    linked_on first (inr reaches) = inr (further reaches link)
