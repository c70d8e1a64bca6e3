-- Renaming the variables of trees.
use Rattle.std.proofs.Common.{◌≡◌, refl, ℕ, Option, Some, None, sym, subst, ap, ◌∙◌, ◌⊎◌, inl, inr}
use Rattle.std.proofs.lemmas.Bool.{cases_eq}
use Rattle.std.proofs.lemmas.Option.{same_Some}
use Rattle.tt_kinds.specs.Label.{Name, Label, type_label, infer_type}
use Rattle.tt_kinds.specs.declared.ty_kind.InferTy.TheVariants.{TyVar}
use Rattle.tt_kinds.specs.Tree as tree
use Rattle.tt_kinds.specs.Tree.{Depth, Tree, Forest}
use Rattle.unify.specs.Substitution.{Substitution, apply, apply_all, assign_all, every, bound_to, or_else}
use Rattle.unify.specs.Substitution.{variable_of, variable_in, variable_tree, IsWithout, AreWithout}
use Rattle.unify.proofs.OccursLaws.{IsProper, AreProper}
use Rattle.unify.proofs.SubstitutionLaws.{no_variable, variable_bound, inside, first_tree, other_trees}
use Rattle.canonical.specs.Canonical.{rename}

-- the same for trees in order
abbrev pub rename_all : (ℕ → ℕ) → Forest Depth → Forest Depth
rename_all r ts = assign_all (λ v. variable_tree (r v)) ts

-- a renaming as a substitution
abbrev pub renaming : (ℕ → ℕ) → Substitution
renaming r = every (λ v. variable_tree (r v))

-- a renamed variable
pub renamed_variable : (r : ℕ → ℕ) (l : Label Name) (ts : Forest Depth) (v : ℕ) → variable_of l ≡ Some v
    → rename r (tree.term l ts) ≡ variable_tree (r v)
renamed_variable r l ts v is = ap (λ o. or_else o (tree.term l (rename_all r ts))) (variable_bound (renaming r) l v is)

-- a term that is no variable
pub renamed_term : (r : ℕ → ℕ) (l : Label Name) (ts : Forest Depth) → variable_of l ≡ None
    → rename r (tree.term l ts) ≡ tree.term l (rename_all r ts)
renamed_term r l ts is = ap (λ o. or_else o (tree.term l (rename_all r ts))) (no_variable (renaming r) l is)

-- a variable's label
pub variable_label : (l : Label Name) (v : ℕ) → variable_of l ≡ Some v → l ≡ type_label (infer_type (TyVar v))
variable_label (type_label (infer_type (TyVar w))) v is = ap (λ n. type_label (infer_type (TyVar n))) (same_Some w v is)
variable_label l v is = absurd (cc)

-- one renaming after another is one renaming
module _ (r s : ℕ → ℕ) where
  twice_term : (l : Label Name) (ts : Forest Depth) (o : Option ℕ) → variable_of l ≡ o
      → rename_all s (rename_all r ts) ≡ rename_all (λ v. s (r v)) ts
      → rename s (rename r (tree.term l ts)) ≡ rename (λ v. s (r v)) (tree.term l ts)
  twice_term l ts (Some v) is below =
      ap (rename s) (renamed_variable r l ts v is) ∙ sym (renamed_variable (λ w. s (r w)) l ts v is)
  twice_term l ts None is below =
      ap (rename s) (renamed_term r l ts is) ∙ renamed_term s l (rename_all r ts) is ∙ ap (tree.term l) below
      ∙ sym (renamed_term (λ w. s (r w)) l ts is)

  mutual
    pub renamed_twice : (t : Tree Depth) → rename s (rename r t) ≡ rename (λ v. s (r v)) t
    renamed_twice (tree.param o i name) = refl
    renamed_twice (tree.bound o d e) = refl
    renamed_twice (tree.region x) = refl
    renamed_twice (tree.term l ts) = twice_term l ts (variable_of l) refl (all_twice ts)
    renamed_twice (tree.node l ts) = ap (tree.node l) (all_twice ts)
    renamed_twice (tree.binder vs t) = ap (tree.binder vs) (renamed_twice t)

    all_twice : (ts : Forest Depth) → rename_all s (rename_all r ts) ≡ rename_all (λ v. s (r v)) ts
    all_twice tree.none = refl
    all_twice (tree.also t ts) = rw (renamed_twice t, all_twice ts) refl

-- substitutions that bind the variables of a tree alike give the same tree
module _ (σ τ : Substitution) where
  -- the variables of a tree are bound alike
  abbrev pub Agree : Tree Depth → Type 0
  Agree t = (v : ℕ) → (σ v ≡ τ v) ⊎ IsWithout v t

  abbrev AgreeAll : Forest Depth → Type 0
  AgreeAll ts = (v : ℕ) → (σ v ≡ τ v) ⊎ AreWithout v ts

  agree_at : (l : Label Name) (ts : Forest Depth) (o : Option ℕ) → variable_of l ≡ o → Agree (tree.term l ts)
      → bound_to σ l ≡ bound_to τ l
  agree_at l ts None is h = no_variable σ l is ∙ sym (no_variable τ l is)
  agree_at l ts (Some v) is h = elim (h v) [
    | inl same ↦ variable_bound σ l v is ∙ same ∙ sym (variable_bound τ l v is)
    | inr without ↦ absurd (without.0 is)
  ]

  mutual
    pub applied_alike : (t : Tree Depth) → Agree t → apply σ t ≡ apply τ t
    applied_alike (tree.param o i name) h = refl
    applied_alike (tree.bound o d e) h = refl
    applied_alike (tree.region x) h = refl
    applied_alike (tree.term l ts) h =
        let own = agree_at l ts (variable_of l) refl h in
        let below = all_alike ts (λ v. elim (h v) [ inl same ↦ inl same | inr p ↦ inr p.1 ]) in
        rw (own, below) refl
    applied_alike (tree.node l ts) h = ap (tree.node l) (all_alike ts h)
    applied_alike (tree.binder vs t) h = ap (tree.binder vs) (applied_alike t h)

    all_alike : (ts : Forest Depth) → AgreeAll ts → apply_all σ ts ≡ apply_all τ ts
    all_alike tree.none h = refl
    all_alike (tree.also t ts) h =
        let one = applied_alike t (λ v. elim (h v) [ inl same ↦ inl same | inr p ↦ inr p.0 ]) in
        let rest = all_alike ts (λ v. elim (h v) [ inl same ↦ inl same | inr p ↦ inr p.1 ]) in
        rw (one, rest) refl

-- a proper tree in which each variable is renamed to itself stays as it is
module _ (r : ℕ → ℕ) where
  stays_term : (l : Label Name) (ts : Forest Depth) (o : Option ℕ) → variable_of l ≡ o
      → ((v : ℕ) → variable_of l ≡ Some v → ts ≡ tree.none) → ((v : ℕ) → (r v ≡ v) ⊎ IsWithout v (tree.term l ts))
      → rename_all r ts ≡ ts → rename r (tree.term l ts) ≡ tree.term l ts
  stays_term l ts None is bare h below = renamed_term r l ts is ∙ ap (tree.term l) below
  stays_term l ts (Some v) is bare h below = elim (h v) [
    | inl same ↦ renamed_variable r l ts v is ∙ ap variable_tree same
        ∙ sym (ap (λ us. tree.term l us) (bare v is) ∙ ap (λ k. tree.term k tree.none) (variable_label l v is))
    | inr without ↦ absurd (without.0 is)
  ]

  mutual
    pub renamed_stays : (t : Tree Depth) → IsProper t → ((v : ℕ) → (r v ≡ v) ⊎ IsWithout v t) → rename r t ≡ t
    renamed_stays (tree.param o i name) proper h = refl
    renamed_stays (tree.bound o d e) proper h = refl
    renamed_stays (tree.region x) proper h = refl
    renamed_stays (tree.term l ts) proper h =
        stays_term l ts (variable_of l) refl proper.0 h
        (all_renamed_stay ts proper.1 (λ v. elim (h v) [ inl same ↦ inl same | inr p ↦ inr p.1 ]))
    renamed_stays (tree.node l ts) proper h = ap (tree.node l) (all_renamed_stay ts proper h)
    renamed_stays (tree.binder vs t) proper h = ap (tree.binder vs) (renamed_stays t proper h)

    all_renamed_stay : (ts : Forest Depth) → AreProper ts → ((v : ℕ) → (r v ≡ v) ⊎ AreWithout v ts)
        → rename_all r ts ≡ ts
    all_renamed_stay tree.none proper h = refl
    all_renamed_stay (tree.also t ts) proper h =
        let one = renamed_stays t proper.0 (λ v. elim (h v) [ inl same ↦ inl same | inr p ↦ inr p.0 ]) in
        let rest = all_renamed_stay ts proper.1 (λ v. elim (h v) [ inl same ↦ inl same | inr p ↦ inr p.1 ]) in
        rw (one, rest) refl

  -- and if a tree stays as it is, each of its variables is renamed to itself
  fixed_term : (l : Label Name) (ts : Forest Depth) (o : Option ℕ) → variable_of l ≡ o
      → ((v : ℕ) → variable_of l ≡ Some v → ts ≡ tree.none)
      → (rename_all r ts ≡ ts → (v : ℕ) → (r v ≡ v) ⊎ AreWithout v ts)
      → rename r (tree.term l ts) ≡ tree.term l ts → (v : ℕ) → (r v ≡ v) ⊎ IsWithout v (tree.term l ts)
  fixed_term l ts None is bare below h v =
      let inner : rename_all r ts ≡ ts = ap inside (sym (renamed_term r l ts is) ∙ h) in
      elim (below inner v) [ inl same ↦ inl same | inr p ↦ inr ((λ some. cc), p) ]
  fixed_term l ts (Some w) is bare below h v =
      let own : r w ≡ w = same_Some (r w) w (ap variable_in (sym (renamed_variable r l ts w is) ∙ h) ∙ is) in
      elim (cases_eq v w) [
        | inl same ↦ inl (subst (λ n. r n ≡ n) (sym same) own)
        | inr apart ↦ inr ((λ other. apart (same_Some v w (sym other ∙ is))), subst (AreWithout v) (sym (bare w is)) tt)
      ]

  mutual
    pub renamed_fixed : (t : Tree Depth) → IsProper t → rename r t ≡ t → (v : ℕ) → (r v ≡ v) ⊎ IsWithout v t
    renamed_fixed (tree.param o i name) proper h v = inr tt
    renamed_fixed (tree.bound o d e) proper h v = inr tt
    renamed_fixed (tree.region x) proper h v = inr tt
    renamed_fixed (tree.term l ts) proper h v =
        fixed_term l ts (variable_of l) refl proper.0 (all_fixed ts proper.1) h v
    renamed_fixed (tree.node l ts) proper h v = all_fixed ts proper (ap inside h) v
    renamed_fixed (tree.binder vs t) proper h v = renamed_fixed t proper (ap (λ u. first_tree t (inside u)) h) v

    all_fixed : (ts : Forest Depth) → AreProper ts → rename_all r ts ≡ ts → (v : ℕ) → (r v ≡ v) ⊎ AreWithout v ts
    all_fixed tree.none proper h v = inr tt
    all_fixed (tree.also t ts) proper h v =
        elim (renamed_fixed t proper.0 (ap (first_tree t) h) v) [
          | inl same ↦ inl same
          | inr one ↦ elim (all_fixed ts proper.1 (ap other_trees h) v) [
            | inl same ↦ inl same
            | inr rest ↦ inr (one, rest)
          ]
        ]
