-- A variable that is reached from itself: nothing solves the entries, since trees are finite. And closed bindings: no
-- closed trees make a variable and a tree equal that holds a variable of a binder around it.
use Rattle.std.proofs.Common.{◌≡◌, refl, ℕ, suc, ◌<◌, ◌≤◌, Option, Some, None, sym, subst, ap, ◌∙◌, ◌⊎◌, inl, inr}
use Rattle.std.proofs.Common.{arith}
use Rattle.std.proofs.lemmas.Bool.{cases_eq, cases_lt}
use Rattle.tt_kinds.specs.Label.{Name, Label}
use Rattle.tt_kinds.specs.Tree as tree
use Rattle.tt_kinds.specs.Tree.{Depth, Tree, Forest}
use Rattle.tt_kinds.specs.Reading.{read, read_all, greatest_reach, greatest_reach_all}
use Rattle.unify.specs.Substitution.{Substitution, Assignment, variable_of, variable_in, apply, every, assign}
use Rattle.unify.specs.Substitution.{assign_all, IsWithout, Solves}
use Rattle.unify.specs.Search.{Reaches, child, further}
use Rattle.unify.specs.Triangular.{resolved, Represents, Holds, IsChild, StandsBelow, IsClosed, weight}
use Rattle.unify.proofs.SubstitutionLaws.{no_variable}
use Rattle.unify.proofs.GeneralLaws.{variable_assigned}
use Rattle.unify.proofs.OccursLaws.{IsProper, AreProper, AllProper, no_heavier}
use Rattle.unify.proofs.TriangularLaws.{applies_same}

module _ (entries : Substitution) (proper : AllProper entries) (order : ℕ → ℕ) (stands : StandsBelow order entries)
    (ρ : Assignment) (solves : Solves ρ entries) where
  -- u becomes less than v, or no more and comes before it
  abbrev IsLess : ℕ → ℕ → Type 0
  IsLess u v = (weight (ρ u) < weight (ρ v)) ⊎ ((weight (ρ u) ≤ weight (ρ v)) × (order u < order v))

  properly_less : (v u : ℕ) (t : Tree Depth) → entries v ≡ Some t → Holds u t → (variable_in t ≡ Some u → ⊥)
      → weight (ρ u) < weight (ρ v)
  properly_less v u t is held other = elim (cases_lt (weight (ρ u)) (weight (ρ v))) [
    | inl less ↦ less
    | inr more ↦ absurd (
        let same : weight (ρ v) ≡ weight (assign ρ t) = ap weight (solves v t is) in
        held (no_heavier ρ u t (proper v t is) other (omega arith)))
  ]

  entry_less : (v u : ℕ) (t : Tree Depth) → entries v ≡ Some t → Holds u t → (o : Option ℕ) → variable_in t ≡ o
      → IsLess u v
  entry_less v u t is held None e = inl (properly_less v u t is held (λ h. cc))
  entry_less v u t is held (Some w) e = elim (cases_eq w u) [
    | inl same ↦ (
        let one : variable_in t ≡ Some u = e ∙ ap Some same in
        let equal : weight (ρ v) ≡ weight (ρ u) = ap weight (solves v t is ∙ variable_assigned ρ t u one) in
        inr (omega arith, stands v u t is one))
    | inr other ↦ inl (properly_less v u t is held (λ h. other (cc)))
  ]

  less_further : (u w v : ℕ) → IsLess u w → IsLess w v → IsLess u v
  less_further u w v (inl a) (inl b) = inl (omega arith)
  less_further u w v (inl a) (inr b) = inl (omega (arith, b.0))
  less_further u w v (inr a) (inl b) = inl (omega (arith, a.0))
  less_further u w v (inr a) (inr b) = inr (omega (arith, a.0, b.0), omega (arith, a.1, b.1))

  reached_less : {v u : ℕ} → Reaches (IsChild entries) v u → IsLess u v
  reached_less {v} {u} (child c) = entry_less v u c.0 c.1.0 c.1.1 (variable_in c.0) refl
  reached_less {v} {u} (further {w = w} r c) =
      less_further u w v (entry_less w u c.0 c.1.0 c.1.1 (variable_in c.0) refl) (reached_less r)

  -- where a variable is reached from itself, nothing solves the entries
  pub cycle_fails : (v : ℕ) → Reaches (IsChild entries) v v → ⊥
  cycle_fails v r = elim (reached_less r) [ inl less ↦ omega (arith, less) | inr both ↦ omega (arith, both.1) ]

module _ (ρ : Assignment) where
  term_reach : (k : ℕ) (l : Label Name) (ts : Forest Depth) (o : Option ℕ) → variable_of l ≡ o
      → ((w : ℕ) → variable_of l ≡ Some w → ts ≡ tree.none)
      → greatest_reach_all (read_all k ts) ≤ greatest_reach_all (read_all k (assign_all ρ ts))
      → greatest_reach (read k (tree.term l ts)) ≤ greatest_reach (read k (assign ρ (tree.term l ts)))
  term_reach k l ts None e bare below = rw (no_variable (every ρ) l e) below
  term_reach k l ts (Some w) e bare below = rw (bare w e) (omega arith)

  mutual
    -- where variables are replaced, a tree reaches out of binders as far as before
    reach_before : (k : ℕ) (t : Tree Depth) → IsProper t
        → greatest_reach (read k t) ≤ greatest_reach (read k (assign ρ t))
    reach_before k (tree.param s i name) proper = omega arith
    reach_before k (tree.bound s d e) proper = omega arith
    reach_before k (tree.region r) proper = omega arith
    reach_before k (tree.term l ts) proper =
        term_reach k l ts (variable_of l) refl proper.0 (all_before k ts proper.1)
    reach_before k (tree.node l ts) proper = all_before k ts proper
    reach_before k (tree.binder vs t) proper = reach_before (suc k) t proper

    all_before : (k : ℕ) (ts : Forest Depth) → AreProper ts
        → greatest_reach_all (read_all k ts) ≤ greatest_reach_all (read_all k (assign_all ρ ts))
    all_before k tree.none proper = omega arith
    all_before k (tree.also t ts) proper =
        let first = reach_before k t proper.0 in
        let rest = all_before k ts proper.1 in
        omega arith

  -- an assignment of closed trees makes no variable equal to a tree that isn't closed
  pub escape_fails : ((v : ℕ) → IsClosed (ρ v)) → (v : ℕ) (t : Tree Depth) → IsProper t → (IsClosed t → ⊥)
      → ρ v ≡ assign ρ t → ⊥
  escape_fails closed v t proper escapes same =
      let own : IsClosed (assign ρ t) = subst IsClosed same (closed v) in
      let less = reach_before 0 t proper in
      escapes (omega arith)

-- a variable is settled by one fold of its entry, once those in it are: `resolve` goes by rising ranks
pub settled_by : (entries memo σ : Substitution) → Represents entries σ → (v : ℕ) (t : Tree Depth)
    → entries v ≡ Some t → ((u : ℕ) → (memo u ≡ σ u) ⊎ IsWithout u t) → Some (apply memo t) ≡ σ v
settled_by entries memo σ represents v t is h =
    ap Some (applies_same memo σ t h) ∙ sym (represents v ∙ ap (resolved σ) is)
