-- Laws of substitution on plain trees.
use Rattle.std.proofs.Common.{◌≡◌, refl, ℕ, Option, Some, None, sym, subst, ap, ◌∙◌, ◌⊎◌, inl, inr}
use Rattle.tt_kinds.specs.Label.{Name, Label, type_label, infer_type}
use Rattle.tt_kinds.specs.declared.ty_kind.InferTy.TheVariants.{TyVar}
use Rattle.tt_kinds.specs.Tree as tree
use Rattle.tt_kinds.specs.Tree.{Depth, Tree, Forest}
use Rattle.unify.specs.Substitution.{Substitution, variable_of, variable_in, bound_to, apply, apply_all, IsWithout}
use Rattle.unify.specs.Substitution.{AreWithout, IsResolved, IsIdempotent, Refines, BindsOnly, IsComposition}

-- a term that is bound is a variable
pub record Bound (σ : Substitution) (l : Label Name) (b : Tree Depth) : Type 0 where
  pub variable : ℕ
  pub is : variable_of l ≡ Some variable
  pub has : σ variable ≡ Some b

-- a label that is bound to a tree is a variable's, and the variable is bound to that tree
pub bound_variable : (σ : Substitution) (l : Label Name) (b : Tree Depth) → bound_to σ l ≡ Some b → Bound σ l b
bound_variable σ (type_label (infer_type (TyVar v))) b h = record { variable = v; is = refl; has = h }
bound_variable σ l b h = absurd (cc)

-- the label of a variable is bound to what the variable is bound to
pub variable_bound : (σ : Substitution) (l : Label Name) (v : ℕ) → variable_of l ≡ Some v → bound_to σ l ≡ σ v
variable_bound σ (type_label (infer_type (TyVar w))) v h = let same : w ≡ v = cc in rw same refl
variable_bound σ l v h = absurd (cc)

-- what is no variable is not bound
pub no_variable : (σ : Substitution) (l : Label Name) → variable_of l ≡ None → bound_to σ l ≡ None
no_variable σ (type_label (infer_type (TyVar w))) h = absurd (cc)
no_variable σ l h = refl

-- what is bound is bound to one tree
pub same_binding : (a b : Tree Depth) → Some a ≡ Some b → a ≡ b
same_binding a b h = cc

-- the same for a term, from its contents
term_stays : (σ : Substitution) (l : Label Name) (ts : Forest Depth) (o : Option (Tree Depth)) → bound_to σ l ≡ o
    → IsResolved σ (tree.term l ts) → apply_all σ ts ≡ ts → apply σ (tree.term l ts) ≡ tree.term l ts
term_stays σ l ts None e h below = rw (e, below) refl
term_stays σ l ts (Some b) e h below =
    let found = bound_variable σ l b e in
    absurd ((h found.variable b found.has).0 found.is)

mutual
  -- a tree without a bound variable stays as it is
  pub resolved_stays : (σ : Substitution) (t : Tree Depth) → IsResolved σ t → apply σ t ≡ t
  resolved_stays σ (tree.param o i name) h = refl
  resolved_stays σ (tree.bound o d e) h = refl
  resolved_stays σ (tree.region r) h = refl
  resolved_stays σ (tree.term l ts) h = term_stays σ l ts (bound_to σ l) refl h (all_stay σ ts (λ v r b. (h v r b).1))
  resolved_stays σ (tree.node l ts) h = ap (tree.node l) (all_stay σ ts h)
  resolved_stays σ (tree.binder vs t) h = ap (tree.binder vs) (resolved_stays σ t h)

  all_stay : (σ : Substitution) (ts : Forest Depth) → ((v : ℕ) (r : Tree Depth) → σ v ≡ Some r → AreWithout v ts) → apply_all σ ts ≡ ts
  all_stay σ tree.none h = refl
  all_stay σ (tree.also t ts) h =
      let first = resolved_stays σ t (λ v r b. (h v r b).0) in
      let rest = all_stay σ ts (λ v r b. (h v r b).1) in
      rw (first, rest) refl

-- the variable is bound, or the tree is without it
abbrev Covered : Substitution → ℕ → Type 0 → Type 0
Covered σ v A = ((b : Tree Depth) × (σ v ≡ Some b)) ⊎ A

module _ (σ : Substitution) (v : ℕ) (each : (w : ℕ) (b : Tree Depth) → σ w ≡ Some b → IsWithout v b) where
  first_of : {A B : Type 0} → Covered σ v (A × B) → Covered σ v A
  first_of (inl b) = inl b
  first_of (inr p) = inr p.0

  second_of : {A B : Type 0} → Covered σ v (A × B) → Covered σ v B
  second_of (inl b) = inl b
  second_of (inr p) = inr p.1

  -- a term that isn't bound is another variable, or none
  other_term : (l : Label Name) {B : Type 0} → bound_to σ l ≡ None → Covered σ v ((variable_of l ≡ Some v → ⊥) × B) → variable_of l ≡ Some v → ⊥
  other_term l e (inl b) is = let at = variable_bound σ l v is in cc
  other_term l e (inr p) is = p.0 is

  term_without : (l : Label Name) (ts : Forest Depth) (o : Option (Tree Depth)) → bound_to σ l ≡ o
      → Covered σ v (IsWithout v (tree.term l ts)) → AreWithout v (apply_all σ ts) → IsWithout v (apply σ (tree.term l ts))
  term_without l ts None e h below = rw e (other_term l e h, below)
  term_without l ts (Some b) e h below =
      let found = bound_variable σ l b e in
      rw e (each found.variable b found.has)

  mutual
    -- what is put in is without the variable, and so is the tree or the variable is replaced: then the result is
    -- without it
    pub apply_without : (t : Tree Depth) → Covered σ v (IsWithout v t) → IsWithout v (apply σ t)
    apply_without (tree.param o i name) h = tt
    apply_without (tree.bound o d e) h = tt
    apply_without (tree.region r) h = tt
    apply_without (tree.term l ts) h = term_without l ts (bound_to σ l) refl h (all_without ts (second_of h))
    apply_without (tree.node l ts) h = all_without ts h
    apply_without (tree.binder vs t) h = apply_without t h

    all_without : (ts : Forest Depth) → Covered σ v (AreWithout v ts) → AreWithout v (apply_all σ ts)
    all_without tree.none h = tt
    all_without (tree.also t ts) h = (apply_without t (first_of h), all_without ts (second_of h))

-- what an idempotent substitution gives has no bound variable
pub apply_resolves : (σ : Substitution) (t : Tree Depth) → IsIdempotent σ → IsResolved σ (apply σ t)
apply_resolves σ t idem v r b = apply_without σ v (λ w s at. idem w s at v r b) t (inl (r, b))

-- so it is applied once
pub applied_once : (σ : Substitution) (t : Tree Depth) → IsIdempotent σ → apply σ (apply σ t) ≡ apply σ t
applied_once σ t idem = resolved_stays σ (apply σ t) (apply_resolves σ t idem)

module _ (σ τ σ' : Substitution) (composed : IsComposition σ τ σ') where
  -- a term that σ doesn't bind is bound by both or by none
  unbound_alike : (l : Label Name) (o : Option ℕ) → variable_of l ≡ o → bound_to σ l ≡ None → bound_to σ' l ≡ bound_to τ l
  unbound_alike l (Some v) is e =
      let first : σ v ≡ None = sym (variable_bound σ l v is) ∙ e in
      let at : σ' v ≡ τ v = composed v ∙ rw first refl in
      variable_bound σ' l v is ∙ at ∙ sym (variable_bound τ l v is)
  unbound_alike l None is e = rw (no_variable σ' l is, no_variable τ l is) refl

  term_composed : (l : Label Name) (ts : Forest Depth) (o : Option (Tree Depth)) → bound_to σ l ≡ o
      → apply_all σ' ts ≡ apply_all τ (apply_all σ ts) → apply σ' (tree.term l ts) ≡ apply τ (apply σ (tree.term l ts))
  term_composed l ts None e below =
      let alike = unbound_alike l (variable_of l) refl e in
      rw (e, alike, below) refl
  term_composed l ts (Some b) e below =
      let found = bound_variable σ l b e in
      let at : bound_to σ' l ≡ Some (apply τ b) = variable_bound σ' l found.variable found.is ∙ composed found.variable ∙ rw found.has refl in
      rw (e, at) refl

  mutual
    -- a composition is one substitution after the other
    pub apply_composed : (t : Tree Depth) → apply σ' t ≡ apply τ (apply σ t)
    apply_composed (tree.param o i name) = refl
    apply_composed (tree.bound o d e) = refl
    apply_composed (tree.region r) = refl
    apply_composed (tree.term l ts) = term_composed l ts (bound_to σ l) refl (all_composed ts)
    apply_composed (tree.node l ts) = ap (tree.node l) (all_composed ts)
    apply_composed (tree.binder vs t) = ap (tree.binder vs) (apply_composed t)

    all_composed : (ts : Forest Depth) → apply_all σ' ts ≡ apply_all τ (apply_all σ ts)
    all_composed tree.none = refl
    all_composed (tree.also t ts) = rw (apply_composed t, all_composed ts) refl

  -- a composition refines its first substitution
  pub composition_refines : IsIdempotent σ → Refines σ σ'
  composition_refines idem v r is =
      let stays : apply σ r ≡ r = resolved_stays σ r (idem v r is) in
      let put : apply σ' r ≡ apply τ r = apply_composed r ∙ ap (apply τ) stays in
      composed v ∙ rw (is, put) refl

  module _ (v : ℕ) (r : Tree Depth) (only : BindsOnly τ v r) (free : σ v ≡ None) (resolved : IsResolved σ r) (absent : IsWithout v r) (idem : IsIdempotent σ) where
    -- what τ puts in is without each variable that is bound
    put_without : (w : ℕ) (o : Option (Tree Depth)) → σ w ≡ o → (b : Tree Depth) → σ' w ≡ Some b → IsWithout w r
    put_without w (Some s) e b at = resolved w s e
    put_without w None e b at =
        let own : τ w ≡ Some b = sym (composed w ∙ rw e refl) ∙ at in
        subst (λ n. IsWithout n r) (sym (only.others w b own).0) absent

    -- and so does each τ-image
    covers : (w : ℕ) (o : Option (Tree Depth)) → σ w ≡ o → (b : Tree Depth) → σ' w ≡ Some b → (u : ℕ) (s : Tree Depth) → σ u ≡ Some s → Covered τ w (IsWithout w s)
    covers w (Some q) e b at u s has = inr (idem u s has w q e)
    covers w None e b at u s has = inl (b, sym (composed w ∙ rw e refl) ∙ at)

    image_without : (u : ℕ) (o : Option (Tree Depth)) → σ u ≡ o → (s : Tree Depth) → σ' u ≡ Some s → (w : ℕ) (b : Tree Depth) → σ' w ≡ Some b → IsWithout w s
    image_without u (Some q) e s at w b has =
        let is : apply τ q ≡ s = same_binding (apply τ q) s (sym (composed u ∙ rw e refl) ∙ at) in
        let each : (x : ℕ) (c : Tree Depth) → τ x ≡ Some c → IsWithout w c
        = λ x c h. subst (IsWithout w) (sym (only.others x c h).1) (put_without w (σ w) refl b has) in
        subst (IsWithout w) is (apply_without τ w each q (covers w (σ w) refl b has u q e))
    image_without u None e s at w b has =
        let own : τ u ≡ Some s = sym (composed u ∙ rw e refl) ∙ at in
        subst (IsWithout w) (sym (only.others u s own).1) (put_without w (σ w) refl b has)

    -- binding one more variable to a tree without bound variables and without itself keeps bindings resolved
    pub binding_keeps : IsIdempotent σ'
    binding_keeps u s at w b has = image_without u (σ u) refl s at w b has

-- the contents of a tree
abbrev pub inside : Tree Depth → Forest Depth
inside (tree.term l ts) = ts
inside (tree.node l ts) = ts
inside (tree.binder vs t) = tree.also t tree.none
inside _ = tree.none

-- the first of trees in order, if there is one
abbrev pub first_tree : Tree Depth → Forest Depth → Tree Depth
first_tree d tree.none = d
first_tree d (tree.also t ts) = t

-- the others
abbrev pub other_trees : Forest Depth → Forest Depth
other_trees tree.none = tree.none
other_trees (tree.also t ts) = ts

module _ (σ : Substitution) (v : ℕ) (r : Tree Depth) (only : BindsOnly σ v r) (proper : variable_in r ≡ Some v → ⊥) where
  -- a term that stays as it is isn't bound
  stable_unbound : (l : Label Name) (ts : Forest Depth) (o : Option (Tree Depth)) → bound_to σ l ≡ o → apply σ (tree.term l ts) ≡ tree.term l ts → o ≡ None
  stable_unbound l ts None e h = refl
  stable_unbound l ts (Some b) e h =
      let found = bound_variable σ l b e in
      let put : b ≡ tree.term l ts = sym (rw e refl) ∙ h in
      let is = only.others found.variable b found.has in
      let own : variable_in r ≡ variable_of l = ap variable_in (sym is.1 ∙ put) in
      absurd (proper (own ∙ found.is ∙ ap Some is.0))

  stable_term : (l : Label Name) (ts : Forest Depth) → apply σ (tree.term l ts) ≡ tree.term l ts → (variable_of l ≡ Some v → ⊥) × (apply_all σ ts ≡ ts)
  stable_term l ts h =
      let free = stable_unbound l ts (bound_to σ l) refl h in
      let same : tree.term l (apply_all σ ts) ≡ tree.term l ts = sym (rw free refl) ∙ h in
      ((λ is. let at = variable_bound σ l v is in let own = only.own in cc), ap inside same)

  mutual
    -- a tree that stays as it is where the variable is replaced by another tree has no such variable
    pub stable_without : (t : Tree Depth) → apply σ t ≡ t → IsWithout v t
    stable_without (tree.param o i name) h = tt
    stable_without (tree.bound o d e) h = tt
    stable_without (tree.region x) h = tt
    stable_without (tree.term l ts) h = let both = stable_term l ts h in (both.0, stable_all ts both.1)
    stable_without (tree.node l ts) h = stable_all ts (ap inside h)
    stable_without (tree.binder vs t) h = stable_without t (ap (λ u. first_tree t (inside u)) h)

    stable_all : (ts : Forest Depth) → apply_all σ ts ≡ ts → AreWithout v ts
    stable_all tree.none h = tt
    stable_all (tree.also t ts) h = (stable_without t (ap (first_tree t) h), stable_all ts (ap other_trees h))

-- substitutions that bind the same give the same
module _ (σ ρ : Substitution) (same : (v : ℕ) → σ v ≡ ρ v) where
  bound_alike : (l : Label Name) → bound_to σ l ≡ bound_to ρ l
  bound_alike (type_label (infer_type (TyVar v))) = same v
  bound_alike l = refl

  mutual
    pub apply_alike : (t : Tree Depth) → apply σ t ≡ apply ρ t
    apply_alike (tree.param o i name) = refl
    apply_alike (tree.bound o d e) = refl
    apply_alike (tree.region r) = refl
    apply_alike (tree.term l ts) = rw (bound_alike l, all_alike ts) refl
    apply_alike (tree.node l ts) = ap (tree.node l) (all_alike ts)
    apply_alike (tree.binder vs t) = ap (tree.binder vs) (apply_alike t)

    all_alike : (ts : Forest Depth) → apply_all σ ts ≡ apply_all ρ ts
    all_alike tree.none = refl
    all_alike (tree.also t ts) = rw (apply_alike t, all_alike ts) refl

-- the same bindings refine themselves
pub alike_refine : (σ ρ : Substitution) → ((v : ℕ) → ρ v ≡ σ v) → IsIdempotent σ → Refines σ ρ
alike_refine σ ρ same idem v r is = same v ∙ is ∙ ap Some (sym (apply_alike ρ σ same r ∙ resolved_stays σ r (idem v r is)))

-- each substitution that is idempotent refines itself
pub refines_itself : (σ : Substitution) → IsIdempotent σ → Refines σ σ
refines_itself σ idem v r is = is ∙ ap Some (sym (resolved_stays σ r (idem v r is)))

module _ (σ σ' : Substitution) (refines : Refines σ σ') where
  term_refined : (l : Label Name) (ts : Forest Depth) (o : Option (Tree Depth)) → bound_to σ l ≡ o
      → apply_all σ' (apply_all σ ts) ≡ apply_all σ' ts → apply σ' (apply σ (tree.term l ts)) ≡ apply σ' (tree.term l ts)
  term_refined l ts None e below = rw (e, below) refl
  term_refined l ts (Some b) e below =
      let found = bound_variable σ l b e in
      let at : bound_to σ' l ≡ Some (apply σ' b) = variable_bound σ' l found.variable found.is ∙ refines found.variable b found.has in
      rw (e, at) refl

  mutual
    -- what was replaced before is replaced again as if it had not been
    pub trees_refined : (t : Tree Depth) → apply σ' (apply σ t) ≡ apply σ' t
    trees_refined (tree.param o i name) = refl
    trees_refined (tree.bound o d e) = refl
    trees_refined (tree.region r) = refl
    trees_refined (tree.term l ts) = term_refined l ts (bound_to σ l) refl (all_refined ts)
    trees_refined (tree.node l ts) = ap (tree.node l) (all_refined ts)
    trees_refined (tree.binder vs t) = ap (tree.binder vs) (trees_refined t)

    all_refined : (ts : Forest Depth) → apply_all σ' (apply_all σ ts) ≡ apply_all σ' ts
    all_refined tree.none = refl
    all_refined (tree.also t ts) = rw (trees_refined t, all_refined ts) refl

-- what refines a refinement refines the first
pub refines_further : (σ ρ τ : Substitution) → Refines σ ρ → Refines ρ τ → Refines σ τ
refines_further σ ρ τ first second v r is = second v (apply ρ r) (first v r is) ∙ ap Some (trees_refined ρ τ second r)
