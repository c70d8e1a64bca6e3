-- One more variable is bound, to a tree that is without it once resolved: the entries stay acyclic, and the new model
-- is the old one and then the new binding, and the most general.
use Rattle.std.proofs.Common.{◌≡◌, refl, ℕ, suc, ◌+◌, ◌<◌, ◌≤◌, Option, Some, None, sym, subst, ap, ◌∙◌, ◌⊎◌}
use Rattle.std.proofs.Common.{inl, inr, arith}
use Rattle.std.proofs.lemmas.Bool.{cases_eq}
use Rattle.tt_kinds.specs.Label.{Name, Label, type_label, infer_type}
use Rattle.tt_kinds.specs.declared.ty_kind.InferTy.TheVariants.{TyVar}
use Rattle.tt_kinds.specs.Tree as tree
use Rattle.tt_kinds.specs.Tree.{Depth, Tree, Forest}
use Rattle.unify.specs.Substitution.{Substitution, Assignment, variable_of, apply, apply_all, assign, IsWithout}
use Rattle.unify.specs.Substitution.{AreWithout, BindsOnly, IsComposition, Solves, IsMostGeneral, variable_tree}
use Rattle.unify.specs.Triangular.{resolved, Represents, IsAcyclic, BindsBelow, model, Binds}
use Rattle.unify.proofs.SubstitutionLaws.{same_binding, no_variable, resolved_stays, apply_composed}
use Rattle.unify.proofs.OccursLaws.{IsProper, AreProper, AllProper}
use Rattle.unify.proofs.TriangularLaws.{unique, model_represents, model_solved, entries_solved}

-- something holds, or it doesn't
abbrev Decided : Type 0 → Type 0
Decided A = A ⊎ (A → ⊥)

both_decided : {A B : Type 0} → Decided A → Decided B → Decided (A × B)
both_decided (inl a) (inl b) = inl (a, b)
both_decided (inl a) (inr h) = inr (λ p. h p.1)
both_decided (inr h) b = inr (λ p. h p.0)

not_decided : (v w : ℕ) → (w ≡ v) ⊎ (w ≡ v → ⊥) → Decided (Some w ≡ Some v → ⊥)
not_decided v w (inl is) = inr (λ h. h (ap Some is))
not_decided v w (inr other) = inl (λ is. other (cc))

module _ (v : ℕ) where
  other_variable : (o : Option ℕ) → Decided (o ≡ Some v → ⊥)
  other_variable (Some w) = not_decided v w (cases_eq w v)
  other_variable None = inl (λ is. cc)

  mutual
    -- either the variable is in the tree or not
    pub is_without : (t : Tree Depth) → Decided (IsWithout v t)
    is_without (tree.param o i name) = inl tt
    is_without (tree.bound o d e) = inl tt
    is_without (tree.region r) = inl tt
    is_without (tree.term l ts) = both_decided (other_variable (variable_of l)) (are_without ts)
    is_without (tree.node l ts) = are_without ts
    is_without (tree.binder vs t) = is_without t

    are_without : (ts : Forest Depth) → Decided (AreWithout v ts)
    are_without tree.none = inl tt
    are_without (tree.also t ts) = both_decided (is_without t) (are_without ts)

module _ (rank : ℕ → ℕ) where
  -- all variables of the tree, or of the trees, rank below a number
  abbrev Bounded : (ℕ → Type 0) → Type 0
  Bounded Lacks = (k : ℕ) × ((w : ℕ) → k ≤ rank w → Lacks w)

  either_bounded : {A B : ℕ → Type 0} → Bounded A → Bounded B → Bounded (λ w. A w × B w)
  either_bounded a b = (a.0 + b.0, λ w h. (a.1 w (omega arith), b.1 w (omega arith)))

  label_bounded : (o : Option ℕ) → Bounded (λ w. o ≡ Some w → ⊥)
  label_bounded (Some u) = (suc (rank u), λ w h is. let same : rank u ≡ rank w = ap rank (cc) in absurd (omega arith))
  label_bounded None = (0, λ w h is. cc)

  mutual
    bounded : (t : Tree Depth) → Bounded (λ w. IsWithout w t)
    bounded (tree.param o i name) = (0, λ w h. tt)
    bounded (tree.bound o d e) = (0, λ w h. tt)
    bounded (tree.region r) = (0, λ w h. tt)
    bounded (tree.term l ts) = either_bounded (label_bounded (variable_of l)) (all_bounded ts)
    bounded (tree.node l ts) = all_bounded ts
    bounded (tree.binder vs t) = bounded t

    all_bounded : (ts : Forest Depth) → Bounded (λ w. AreWithout w ts)
    all_bounded tree.none = (0, λ w h. tt)
    all_bounded (tree.also t ts) = either_bounded (bounded t) (all_bounded ts)

-- a label of a variable, and a term that is one
variable_label : (l : Label Name) (u : ℕ) → variable_of l ≡ Some u → l ≡ type_label (infer_type (TyVar u))
variable_label (type_label (infer_type (TyVar w))) u h =
    let same : w ≡ u = cc in
    ap (λ n. type_label (infer_type (TyVar n))) same
variable_label l u h = absurd (cc)

pub variable_is : (l : Label Name) (ts : Forest Depth) (u : ℕ) → variable_of l ≡ Some u → ts ≡ tree.none
    → tree.term l ts ≡ variable_tree u
variable_is l ts u is none = ap (tree.term l) none ∙ ap (λ k. tree.term k tree.none) (variable_label l u is)

module _ (σ : Substitution) (v x : ℕ) (held : IsWithout v (apply σ (variable_tree x)) → ⊥) where
  term_image : (l : Label Name) (ts : Forest Depth) → ((w : ℕ) → variable_of l ≡ Some w → ts ≡ tree.none)
      → (o : Option ℕ) → variable_of l ≡ o → (AreWithout v (apply_all σ ts) → AreWithout x ts)
      → IsWithout v (apply σ (tree.term l ts)) → IsWithout x (tree.term l ts)
  term_image l ts bare None e below h =
      let free = no_variable σ l e in
      let inside : IsWithout v (tree.term l (apply_all σ ts)) = rw free at h in
      ((λ is. cc), below inside.1)
  term_image l ts bare (Some u) e below h = (
    (λ is. let same : u ≡ x = cc in
        held (subst (λ t. IsWithout v (apply σ t)) (variable_is l ts u e (bare u e) ∙ ap variable_tree same) h)),
    subst (AreWithout x) (sym (bare u e)) tt,
  )

  mutual
    -- a variable whose image holds v is nowhere in a tree whose image is without v
    pub image_without : (t : Tree Depth) → IsProper t → IsWithout v (apply σ t) → IsWithout x t
    image_without (tree.param o i name) proper h = tt
    image_without (tree.bound o d e) proper h = tt
    image_without (tree.region r) proper h = tt
    image_without (tree.term l ts) proper h = term_image l ts proper.0 (variable_of l) refl (all_image ts proper.1) h
    image_without (tree.node l ts) proper h = all_image ts proper h
    image_without (tree.binder vs t) proper h = image_without t proper h

    all_image : (ts : Forest Depth) → AreProper ts → AreWithout v (apply_all σ ts) → AreWithout x ts
    all_image tree.none proper h = tt
    all_image (tree.also t ts) proper h = (image_without t proper.0 h.0, all_image ts proper.1 h.1)

-- the rank of a variable whose image holds v is raised by n
raised : {A : Type 0} → ℕ → ℕ → Decided A → ℕ
raised n r (inl lacks) = r
raised n r (inr held) = r + n

module _ (entries σ later : Substitution) (v : ℕ) (t : Tree Depth) (represents : Represents entries σ)
    (binds : Binds entries v t later) (without : IsWithout v (apply σ t)) where
  still_free : σ v ≡ None
  still_free = represents v ∙ ap (resolved σ) binds.free

  self_within : IsWithout v (apply σ (variable_tree v)) → ⊥
  self_within h = let at = rw still_free at h in at.0 refl

  -- the later entries bind no variable past the first n
  pub still_few : (n : ℕ) → BindsBelow n entries → v < n → BindsBelow n later
  still_few n few less w past = binds.others w (λ same. absurd (omega arith)) ∙ few w past

  -- the image of a variable holds v or not
  abbrev Image : ℕ → Type 0
  Image u = Decided (IsWithout v (apply σ (variable_tree u)))

  image : (u : ℕ) → Image u
  image u = is_without v (apply σ (variable_tree u))

  module _ (acyclic : IsAcyclic entries) (proper : AllProper entries) (own : IsProper t) where
    cap : ℕ
    cap = (bounded acyclic.rank t).0

    new_below : (x : ℕ) (o : Image v) (p : Image x)
        → raised cap (acyclic.rank v) o ≤ raised cap (acyclic.rank x) p → IsWithout x t
    unfolding raised cap
    new_below x (inl lacks) p h = absurd (self_within lacks)
    new_below x (inr held) (inl lacks) h = (bounded acyclic.rank t).1 x (omega arith)
    new_below x (inr held) (inr within) h = image_without σ v x within t own without

    old_below : (w : ℕ) (s : Tree Depth) → entries w ≡ Some s → (x : ℕ) (o : Image w) (p : Image x)
        → raised cap (acyclic.rank w) o ≤ raised cap (acyclic.rank x) p → IsWithout x s
    unfolding raised
    old_below w s is x (inl lacks) (inl other) h = acyclic.falls w s is x h
    old_below w s is x (inl lacks) (inr within) h =
        let at : σ w ≡ Some (apply σ s) = represents w ∙ ap (resolved σ) is in
        let image : apply σ (variable_tree w) ≡ apply σ s = rw at refl in
        image_without σ v x within s (proper w s is) (subst (IsWithout v) image lacks)
    old_below w s is x (inr held) (inl lacks) h = acyclic.falls w s is x (omega arith)
    old_below w s is x (inr held) (inr within) h = acyclic.falls w s is x (omega arith)

    more : ℕ → ℕ
    more u = raised cap (acyclic.rank u) (image u)

    later_below : (w : ℕ) (s : Tree Depth) → later w ≡ Some s → (w ≡ v) ⊎ (w ≡ v → ⊥) → (x : ℕ) → more w ≤ more x
        → IsWithout x s
    unfolding more
    later_below w s is (inl same) x h =
        let put : t ≡ s = same_binding t s (sym (ap later same ∙ binds.own) ∙ is) in
        let least = subst (λ u. more u ≤ more x) same h in
        subst (IsWithout x) put (new_below x (image v) (image x) least)
    later_below w s is (inr other) x h =
        old_below w s (sym (binds.others w other) ∙ is) x (image w) (image x) h

    -- the later entries are acyclic
    pub still_acyclic : IsAcyclic later
    still_acyclic = record { rank = more; falls = λ w s is. later_below w s is (cases_eq w v) }

  module _ (τ σ' : Substitution) (only : BindsOnly τ v (apply σ t)) (composed : IsComposition σ τ σ') where
    put_stays : apply τ (apply σ t) ≡ apply σ t
    put_stays =
        resolved_stays τ (apply σ t)
        (λ w r is. subst (λ x. IsWithout x (apply σ t)) (sym (only.others w r is).0) without)

    unbound_stays : (w : ℕ) → (w ≡ v → ⊥) → (o : Option (Tree Depth)) → τ w ≡ o → o ≡ None
    unbound_stays w other None e = refl
    unbound_stays w other (Some r) e = absurd (other (only.others w r e).0)

    old_represented : (w : ℕ) → (w ≡ v → ⊥) → (o : Option (Tree Depth)) → entries w ≡ o → σ' w ≡ resolved σ' o
    old_represented w other (Some s) e =
        let at : σ w ≡ Some (apply σ s) = represents w ∙ ap (resolved σ) e in
        composed w ∙ rw at (ap Some (sym (apply_composed σ τ σ' composed s)))
    old_represented w other None e =
        let at : σ w ≡ None = represents w ∙ ap (resolved σ) e in
        composed w ∙ rw at (unbound_stays w other (τ w) refl)

    represented : (w : ℕ) → (w ≡ v) ⊎ (w ≡ v → ⊥) → σ' w ≡ resolved σ' (later w)
    represented w (inl same) =
        let at : σ' v ≡ Some (apply σ t) = composed v ∙ rw still_free only.own in
        let put : apply σ' t ≡ apply σ t = apply_composed σ τ σ' composed t ∙ put_stays in
        subst (λ x. σ' x ≡ resolved σ' (later x)) (sym same) (at ∙ sym (ap (resolved σ') binds.own ∙ ap Some put))
    represented w (inr other) =
        old_represented w other (entries w) refl ∙ ap (resolved σ') (sym (binds.others w other))

    -- they represent the old substitution, and then the new binding
    pub still_represents : Represents later σ'
    still_represents w = represented w (cases_eq w v)

    -- so their model is that composition
    pub model_composes : (n : ℕ) → BindsBelow n entries → v < n → IsAcyclic later → IsComposition σ τ (model n later)
    model_composes n few less after w =
        unique after.rank later after.falls (model n later) σ'
        (model_represents after.rank later after.falls n (still_few n few less)) still_represents w ∙ composed w

  later_solved : (ρ : Assignment) → Solves ρ entries → ρ v ≡ assign ρ t → (w : ℕ) (s : Tree Depth) → later w ≡ Some s
      → (w ≡ v) ⊎ (w ≡ v → ⊥) → ρ w ≡ assign ρ s
  later_solved ρ solves equal w s is (inl same) =
      let put : t ≡ s = same_binding t s (sym (ap later same ∙ binds.own) ∙ is) in
      ap ρ same ∙ equal ∙ ap (assign ρ) put
  later_solved ρ solves equal w s is (inr other) = solves w s (sym (binds.others w other) ∙ is)

  -- and it is the most general that makes the variable and the tree equal
  pub most_general : (n : ℕ) → BindsBelow n entries → v < n → IsAcyclic later
      → IsMostGeneral σ (variable_tree v) t (model n later)
  most_general n few less after ρ solves equal =
      model_solved after.rank later after.falls (model n later)
      (model_represents after.rank later after.falls n (still_few n few less)) ρ
      (λ w s is. later_solved ρ (entries_solved entries σ represents ρ solves) equal w s is (cases_eq w v))
