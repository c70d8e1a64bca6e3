-- Which assignments solve bindings, on plain trees and on tables.
use Rattle.std.proofs.Common.{◌≡◌, refl, ℕ, ◌<◌, Option, Some, None, sym, ap, ◌∙◌}
use Rattle.tt_kinds.specs.Label.{Name, Label}
use Rattle.tt_kinds.specs.Tree as tree
use Rattle.tt_kinds.specs.Tree.{Depth, Tree, Forest}
use Rattle.unify.specs.Substitution.{Substitution, Assignment, variable_in, bound_to, apply, apply_all, every, assign}
use Rattle.unify.specs.Substitution.{assign_all, Solves, Refines}
use Rattle.unify.specs.Resolver.{binding}
use Rattle.unify.proofs.SubstitutionLaws.{bound_variable, variable_bound}

module _ (ρ : Assignment) where
  -- a variable becomes its tree
  pub variable_assigned : (t : Tree Depth) (v : ℕ) → variable_in t ≡ Some v → assign ρ t ≡ ρ v
  variable_assigned (tree.term l ts) v h = rw (variable_bound (every ρ) l v h) refl
  variable_assigned (tree.param o i name) v h = absurd (cc)
  variable_assigned (tree.bound o d e) v h = absurd (cc)
  variable_assigned (tree.region r) v h = absurd (cc)
  variable_assigned (tree.node l ts) v h = absurd (cc)
  variable_assigned (tree.binder vs t) v h = absurd (cc)

  module _ (σ : Substitution) (solves : Solves ρ σ) where
    -- a bound variable and its binding become one tree
    pub binding_assigned : (t r : Tree Depth) → binding σ t ≡ Some r → assign ρ t ≡ assign ρ r
    binding_assigned (tree.term l ts) r h =
        let found = bound_variable σ l r h in
        variable_assigned (tree.term l ts) found.variable found.is ∙ solves found.variable r found.has
    binding_assigned (tree.param o i name) r h = absurd (cc)
    binding_assigned (tree.bound o d e) r h = absurd (cc)
    binding_assigned (tree.region x) r h = absurd (cc)
    binding_assigned (tree.node l ts) r h = absurd (cc)
    binding_assigned (tree.binder vs t) r h = absurd (cc)

    term_factors : (l : Label Name) (ts : Forest Depth) (o : Option (Tree Depth)) → bound_to σ l ≡ o
        → assign_all ρ (apply_all σ ts) ≡ assign_all ρ ts → assign ρ (apply σ (tree.term l ts)) ≡ assign ρ (tree.term l ts)
    term_factors l ts None e below = rw (e, below) refl
    term_factors l ts (Some b) e below = rw e (sym (binding_assigned (tree.term l ts) b e))

    mutual
      -- what solves bindings makes of a resolved tree what it makes of the tree
      pub solution_factors : (t : Tree Depth) → assign ρ (apply σ t) ≡ assign ρ t
      solution_factors (tree.param o i name) = refl
      solution_factors (tree.bound o d e) = refl
      solution_factors (tree.region r) = refl
      solution_factors (tree.term l ts) = term_factors l ts (bound_to σ l) refl (all_factor ts)
      solution_factors (tree.node l ts) = ap (tree.node l) (all_factor ts)
      solution_factors (tree.binder vs t) = ap (tree.binder vs) (solution_factors t)

      all_factor : (ts : Forest Depth) → assign_all ρ (apply_all σ ts) ≡ assign_all ρ ts
      all_factor tree.none = refl
      all_factor (tree.also t ts) = rw (solution_factors t, all_factor ts) refl

  -- what solves bindings solved the earlier ones
  pub solves_earlier : (σ σ' : Substitution) → Refines σ σ' → Solves ρ σ' → Solves ρ σ
  solves_earlier σ σ' refines solves v r is = solves v (apply σ' r) (refines v r is) ∙ solution_factors σ' solves r
