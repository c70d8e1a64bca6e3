-- Acyclic entries are one substitution, which is idempotent and has the entries' solutions.
use Rattle.std.proofs.Common.{◌≡◌, refl, ℕ, zero, suc, ◌+◌, ◌-◌, ◌<◌, ◌≤◌, Option, Some, None, sym, subst, ap, ◌∙◌}
use Rattle.std.proofs.Common.{◌⊎◌, inl, inr, arith}
use Rattle.std.specs.Prelude.{min}
use Rattle.std.proofs.lemmas.Bool.{cases_eq, cases_lt}
use Rattle.tt_kinds.specs.Label.{Name, Label, type_label, infer_type}
use Rattle.tt_kinds.specs.declared.ty_kind.InferTy.TheVariants.{TyVar}
use Rattle.tt_kinds.specs.Tree as tree
use Rattle.tt_kinds.specs.Tree.{Depth, Tree, Forest}
use Rattle.unify.specs.Substitution.{Substitution, Assignment, variable_of, bound_to, apply, apply_all, assign}
use Rattle.unify.specs.Substitution.{IsWithout, AreWithout, IsResolved, IsIdempotent, Refines, Solves, IsType}
use Rattle.unify.specs.Triangular.{resolved, Represents, IsBelow, IsRanked, IsAcyclic, BindsBelow, model}
use Rattle.unify.proofs.SubstitutionLaws.{bound_variable, same_binding, apply_without, resolved_stays}
use Rattle.unify.proofs.SubstitutionLaws.{trees_refined}
use Rattle.unify.proofs.GeneralLaws.{solution_factors}

-- the variable is bound alike, or the tree is without it
abbrev Same : Option (Tree Depth) → Option (Tree Depth) → Type 0 → Type 0
Same o p A = (o ≡ p) ⊎ A

left_same : {o p : Option (Tree Depth)} {A B : Type 0} → Same o p (A × B) → Same o p A
left_same (inl e) = inl e
left_same (inr h) = inr h.0

right_same : {o p : Option (Tree Depth)} {A B : Type 0} → Same o p (A × B) → Same o p B
right_same (inl e) = inl e
right_same (inr h) = inr h.1

module _ (σ τ : Substitution) where
  label_same : (l : Label Name) {A : ℕ → Type 0} → ((v : ℕ) → Same (σ v) (τ v) ((variable_of l ≡ Some v → ⊥) × A v))
      → bound_to σ l ≡ bound_to τ l
  label_same (type_label (infer_type (TyVar v))) h = elim (h v) [ inl e ↦ e | inr other ↦ absurd (other.0 refl) ]
  label_same l h = refl

  mutual
    -- two substitutions that bind a tree's variables alike do the same to it
    pub applies_same : (t : Tree Depth) → ((v : ℕ) → Same (σ v) (τ v) (IsWithout v t)) → apply σ t ≡ apply τ t
    applies_same (tree.param o i name) h = refl
    applies_same (tree.bound o d e) h = refl
    applies_same (tree.region r) h = refl
    applies_same (tree.term l ts) h = rw (label_same l h, all_same ts (λ v. right_same (h v))) refl
    applies_same (tree.node l ts) h = ap (tree.node l) (all_same ts h)
    applies_same (tree.binder vs t) h = ap (tree.binder vs) (applies_same t h)

    all_same : (ts : Forest Depth) → ((v : ℕ) → Same (σ v) (τ v) (AreWithout v ts)) → apply_all σ ts ≡ apply_all τ ts
    all_same tree.none h = refl
    all_same (tree.also t ts) h =
        rw (applies_same t (λ v. left_same (h v)), all_same ts (λ v. right_same (h v))) refl

-- how many of the first n variables have a rank below k
pub count : (ℕ → ℕ) → ℕ → ℕ → ℕ
count rank k zero = 0
count rank k (suc n) = min 1 (k - rank n) + count rank k n

module _ (rank : ℕ → ℕ) where
  pub count_most : (k n : ℕ) → count rank k n ≤ n
  unfolding count
  count_most k zero = omega arith
  count_most k (suc n) = let less = count_most k n in omega arith

  count_grows : (j k n : ℕ) → j ≤ k → count rank j n ≤ count rank k n
  unfolding count
  count_grows j k zero h = omega arith
  count_grows j k (suc n) h = let less = count_grows j k n h in omega arith

  -- a variable that counts for k alone
  pub count_less : (j k n u : ℕ) → u < n → j ≤ rank u → rank u < k → count rank j n < count rank k n
  unfolding count
  count_less j k zero u inside low high = absurd (omega arith)
  count_less j k (suc n) u inside low high = elim (cases_eq u n) [
    | inl same ↦ (let at = ap rank same in let less = count_grows j k n (omega arith) in omega arith)
    | inr other ↦ (let less = count_less j k n u (omega arith) low high in omega arith)
  ]

-- what is unbound stays so
stays_unbound : (σ : Substitution) (o : Option (Tree Depth)) → ((t : Tree Depth) → o ≡ Some t → ⊥)
    → None ≡ resolved σ o
stays_unbound σ None h = refl
stays_unbound σ (Some t) h = absurd (h t refl)

-- an entry to which two substitutions do the same
resolved_same : (σ τ : Substitution) (o : Option (Tree Depth))
    → ((t : Tree Depth) → o ≡ Some t → apply σ t ≡ apply τ t) → resolved σ o ≡ resolved τ o
resolved_same σ τ None h = refl
resolved_same σ τ (Some t) h = ap Some (h t refl)

-- a binding that is kept where there is room
kept : ℕ → Option (Tree Depth) → Option (Tree Depth)
kept zero o = None
kept (suc d) o = o

kept_same : (d : ℕ) (o : Option (Tree Depth)) → 0 < d → kept d o ≡ o
unfolding kept
kept_same zero o h = absurd (omega arith)
kept_same (suc d) o h = refl

module _ (rank : ℕ → ℕ) (k : ℕ) (σ : Substitution) where
  -- σ on the variables that rank below k
  low : Substitution
  low v = kept (k - rank v) (σ v)

  low_same : (v : ℕ) → rank v < k → low v ≡ σ v
  unfolding low
  low_same v less = kept_same (k - rank v) (σ v) (omega arith)

  was_kept : (v : ℕ) (b : Tree Depth) (d : ℕ) → k - rank v ≡ d → kept d (σ v) ≡ Some b → (rank v < k) × (σ v ≡ Some b)
  unfolding kept
  was_kept v b zero e is = absurd (cc)
  was_kept v b (suc d) e is = (omega arith, is)

  low_bound : (v : ℕ) (b : Tree Depth) → low v ≡ Some b → (rank v < k) × (σ v ≡ Some b)
  unfolding low
  low_bound v b is = was_kept v b (k - rank v) refl is

  low_applies : (t : Tree Depth) → IsBelow rank k t → apply low t ≡ apply σ t
  low_applies t h = applies_same low σ t (λ v. elim (cases_lt (rank v) k) [
    | inl less ↦ inl (low_same v less)
    | inr past ↦ inr (h v past)
  ])

-- a type becomes a type where variables become types
module _ (σ : Substitution) (types : (v : ℕ) (b : Tree Depth) → σ v ≡ Some b → IsType b) where
  term_type : (l : Label Name) (ts : Forest Depth) (o : Option (Tree Depth)) → bound_to σ l ≡ o
      → IsType (tree.term l ts) → IsType (apply σ (tree.term l ts))
  term_type l ts None e is = rw e is
  term_type l ts (Some b) e is = let found = bound_variable σ l b e in rw e (types found.variable b found.has)

  applied_type : (t : Tree Depth) → IsType t → IsType (apply σ t)
  applied_type (tree.param s i name) is = is
  applied_type (tree.bound s d e) is = is
  applied_type (tree.term l ts) is = term_type l ts (bound_to σ l) refl is
  applied_type (tree.region r) is = absurd is
  applied_type (tree.node l ts) is = absurd is
  applied_type (tree.binder vs t) is = absurd is

module _ (rank : ℕ → ℕ) (entries : Substitution) (falls : IsRanked rank entries) where
  -- two substitutions that are alike on lower ranks do the same to an entry
  entry_same : (σ τ : Substitution) (v : ℕ)
      → ((t : Tree Depth) → entries v ≡ Some t → (w : ℕ) → rank w < rank v → σ w ≡ τ w)
      → resolved σ (entries v) ≡ resolved τ (entries v)
  entry_same σ τ v alike = resolved_same σ τ (entries v) (λ t is. applies_same σ τ t (λ w.
      elim (cases_lt (rank w) (rank v)) [
        | inl less ↦ inl (alike t is w less)
        | inr past ↦ inr (falls v t is w past)
      ]))

  module _ (σ τ : Substitution) (first : Represents entries σ) (second : Represents entries τ) where
    agree : (k v : ℕ) → rank v < k → σ v ≡ τ v
    agree zero v less = absurd (omega arith)
    agree (suc k) v less = first v ∙ entry_same σ τ v (λ t is w below. agree k w (omega arith)) ∙ sym (second v)

    -- ranked entries represent at most one substitution
    pub unique : (v : ℕ) → σ v ≡ τ v
    unique v = agree (suc (rank v)) v (omega arith)

  module _ (n : ℕ) (few : BindsBelow n entries) where
    inside : (v : ℕ) (t : Tree Depth) → entries v ≡ Some t → v < n
    inside v t is = elim (cases_lt v n) [ inl less ↦ less | inr past ↦ absurd (let none = few v past in cc) ]

    -- a bound variable with fewer than k variables of lower ranks is resolved after k times
    settles : (k v : ℕ) → ((t : Tree Depth) → entries v ≡ Some t → count rank (rank v) n < k)
        → model k entries v ≡ model (suc k) entries v
    settles zero v h =
        stays_unbound (model zero entries) (entries v) (λ t is. let less = h t is in absurd (omega arith))
    settles (suc k) v h = entry_same (model k entries) (model (suc k) entries) v (λ t is w below. settles k w (λ u at.
        let less = h t is in
        let fewer = count_less rank (rank w) (rank v) n w (inside w u at) (omega arith) below in
        omega arith))

    -- and represent one: the model
    pub model_represents : Represents entries (model n entries)
    model_represents v = settles n v (λ t is.
        let fewer = count_less rank (rank v) (suc (rank v)) n v (inside v t is) (omega arith) (omega arith) in
        let most = count_most rank (suc (rank v)) n in
        omega arith)

  module _ (σ : Substitution) (represents : Represents entries σ) where
    was_entry : (v : ℕ) (r : Tree Depth) → σ v ≡ Some r → (o : Option (Tree Depth)) → entries v ≡ o
        → (t : Tree Depth) × ((entries v ≡ Some t) × (apply σ t ≡ r))
    was_entry v r is (Some t) e = (t, (e, same_binding (apply σ t) r (sym (represents v ∙ ap (resolved σ) e) ∙ is)))
    was_entry v r is None e = absurd (let at : σ v ≡ None = represents v ∙ ap (resolved σ) e in cc)

    -- what is bound has an entry
    bound_entry : (v : ℕ) (r : Tree Depth) → σ v ≡ Some r
        → (t : Tree Depth) × ((entries v ≡ Some t) × (apply σ t ≡ r))
    bound_entry v r is = was_entry v r is (entries v) refl

    -- what holds of each binding, if it holds of those that rank below
    module _ (Holds : ℕ → Tree Depth → Type 0)
        (each : (v : ℕ) (t : Tree Depth) → entries v ≡ Some t
        → ((w : ℕ) (b : Tree Depth) → low rank (rank v) σ w ≡ Some b → Holds w b)
        → Holds v (apply (low rank (rank v) σ) t)) where
      holds_below : (k v : ℕ) → rank v < k → (r : Tree Depth) → σ v ≡ Some r → Holds v r
      holds_below zero v less r is = absurd (omega arith)
      holds_below (suc k) v less r is =
          let found = bound_entry v r is in
          let same = low_applies rank (rank v) σ found.0 (falls v found.0 found.1.0) in
          subst (Holds v) (same ∙ found.1.1) (each v found.0 found.1.0
          (λ w b at. let old = low_bound rank (rank v) σ w b at in holds_below k w (omega arith) b old.1))

      by_rank : (v : ℕ) (r : Tree Depth) → σ v ≡ Some r → Holds v r
      by_rank v r is = holds_below (suc (rank v)) v (omega arith) r is

    -- it is idempotent
    pub idempotent : IsIdempotent σ
    idempotent = by_rank (λ v r. IsResolved σ r) (λ v t e earlier w q has.
        apply_without (low rank (rank v) σ) w (λ u b at. earlier u b at w q has) t
        (elim (cases_lt (rank w) (rank v)) [
          | inl less ↦ inl (q, low_same rank (rank v) σ w less ∙ has)
          | inr past ↦ inr (falls v t e w past)
        ]))

    -- what solves the entries as equations solves it
    pub model_solved : (ρ : Assignment) → Solves ρ entries → Solves ρ σ
    model_solved ρ solves = by_rank (λ v r. ρ v ≡ assign ρ r) (λ v t e earlier.
        solves v t e ∙ sym (solution_factors ρ (low rank (rank v) σ) earlier t))

    -- if each entry is a type, so is each binding
    pub model_types : ((v : ℕ) (t : Tree Depth) → entries v ≡ Some t → IsType t)
        → (v : ℕ) (r : Tree Depth) → σ v ≡ Some r → IsType r
    model_types types = by_rank (λ v r. IsType r) (λ v t e earlier.
        applied_type (low rank (rank v) σ) earlier t (types v t e))

    -- what further entries represent refines it
    pub model_refines : (later σ' : Substitution) → Represents later σ'
        → ((v : ℕ) (t : Tree Depth) → entries v ≡ Some t → later v ≡ Some t) → Refines σ σ'
    model_refines later σ' second kept = by_rank (λ v r. σ' v ≡ Some (apply σ' r)) (λ v t e earlier.
        second v ∙ ap (resolved σ') (kept v t e) ∙ ap Some (sym (trees_refined (low rank (rank v) σ) σ' earlier t)))

-- and what solves it solves the entries; this needs no ranks
pub entries_solved : (entries σ : Substitution) → Represents entries σ → (ρ : Assignment) → Solves ρ σ
    → Solves ρ entries
entries_solved entries σ represents ρ solves v t is =
    solves v (apply σ t) (represents v ∙ ap (resolved σ) is) ∙ solution_factors ρ σ solves t

module _ (entries later : Substitution) (alike : (v : ℕ) → entries v ≡ later v) where
  -- entries that bind alike are acyclic together
  pub acyclic_alike : IsAcyclic entries → IsAcyclic later
  acyclic_alike acyclic = record { rank = acyclic.rank; falls = λ v t is. acyclic.falls v t (alike v ∙ is) }

  -- and have one model
  pub model_alike : (n m : ℕ) → BindsBelow n entries → BindsBelow m later → IsAcyclic entries
      → (v : ℕ) → model n entries v ≡ model m later v
  model_alike n m few more acyclic =
      let after = acyclic_alike acyclic in
      let first = model_represents acyclic.rank entries acyclic.falls n few in
      let second = model_represents after.rank later after.falls m more in
      unique acyclic.rank entries acyclic.falls (model n entries) (model m later) first
      (λ v. second v ∙ ap (resolved (model m later)) (sym (alike v)))

-- Entries that are kept resolved, as today's are, are acyclic, and are their own model.

bound_rank : Option (Tree Depth) → ℕ
bound_rank None = 0
bound_rank (Some t) = 1

module _ (entries : Substitution) (idem : IsIdempotent entries) where
  unbound_below : (v w : ℕ) (t : Tree Depth) → entries v ≡ Some t
      → (o p : Option (Tree Depth)) → entries v ≡ o → entries w ≡ p → bound_rank o ≤ bound_rank p → IsWithout w t
  unfolding bound_rank
  unbound_below v w t is o (Some u) e f h = idem v t is w u f
  unbound_below v w t is (Some u) None e f h = absurd (omega arith)
  unbound_below v w t is None None e f h = absurd (cc)

  pub idempotent_acyclic : IsAcyclic entries
  idempotent_acyclic = record {
    rank = λ v. bound_rank (entries v);
    falls = λ v t is w h. unbound_below v w t is (entries v) (entries w) refl refl h;
  }

  own_entry : (v : ℕ) (o : Option (Tree Depth)) → entries v ≡ o → o ≡ resolved entries o
  own_entry v None e = refl
  own_entry v (Some t) e = ap Some (sym (resolved_stays entries t (idem v t e)))

  pub idempotent_model : (n : ℕ) → BindsBelow n entries → (v : ℕ) → model n entries v ≡ entries v
  idempotent_model n few =
      let ranked = idempotent_acyclic in
      unique ranked.rank entries ranked.falls (model n entries) entries
      (model_represents ranked.rank entries ranked.falls n few) (λ v. own_entry v (entries v) refl)
