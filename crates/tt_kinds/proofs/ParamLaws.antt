-- Trees that hold no parameter.
use Rattle.std.proofs.Common.{inl, inr, ◌≡◌, ℕ, suc, List, refl, ◌∙◌}
use Rattle.std.specs.Prelude.{⊤, Bool, true, false, ◌||◌, ◌⊎◌, Option, Some, None, unwrap_or, IsSome}
use Rattle.tt_kinds.specs.Label.{Name, Sort}
use Rattle.tt_kinds.specs.Tree.{Depth, Place, Tree, param, bound, region, term, node, binder, Forest, none, also, Each}
use Rattle.tt_kinds.specs.Tree.{Each_all}
use Rattle.tt_kinds.specs.Reading.{keep}
use Rattle.tt_kinds.specs.Argument.{Argument, argument, given, put}
use Rattle.tt_kinds.specs.Plain.{given_under, inst_tree}
use Rattle.tt_kinds.specs.Param.{holds_param, holds_param_among, HasParam, HasParam_among, EachParam, EachParam_among}
use Rattle.tt_kinds.specs.Param.{IsGeneric, IsGeneric_among, IsAnswered, ArgumentsHoldNone}
use Rattle.tt_kinds.proofs.RebuildLaws.{rebuild-same, Each-then, rebuild-nothing, Each-replace}

module _ {I : Type 0} (P : Sort → ℕ → Type 0) where
  mutual
    -- a condition on parameters, as one on leaves
    pub Each-from_params : (k : ℕ) (t : Tree I) → EachParam P t → Each (λ j d. ⊤) (λ j s i name. P s i) k t
    Each-from_params k (param s i name) h = h
    Each-from_params k (bound s d e) h = tt
    Each-from_params k (region r) h = tt
    Each-from_params k (term l ts) h = Each_all-from_params k ts h
    Each-from_params k (node l ts) h = Each_all-from_params k ts h
    Each-from_params k (binder vs t) h = Each-from_params (suc k) t h

    pub Each_all-from_params : (k : ℕ) (ts : Forest I) → EachParam_among P ts → Each_all (λ j d. ⊤) (λ j s i name. P s i) k ts
    Each_all-from_params k none h = tt
    Each_all-from_params k (also t ts) h = (Each-from_params k t h.0, Each_all-from_params k ts h.1)

module _ {I : Type 0} (P Q : Sort → ℕ → Type 0) (never : (s : Sort) (i : ℕ) → P s i → Q s i → ⊥) where
  mutual
    -- no parameter occurs in a tree of which each parameter is another one
    pub HasParam-never : (t : Tree I) → HasParam P t → EachParam Q t → ⊥
    HasParam-never (param s i name) h g = never s i h g
    HasParam-never (bound s d e) h g = h
    HasParam-never (region r) h g = h
    HasParam-never (term l ts) h g = HasParam_among-never ts h g
    HasParam-never (node l ts) h g = HasParam_among-never ts h g
    HasParam-never (binder vs t) h g = HasParam-never t h g

    pub HasParam_among-never : (ts : Forest I) → HasParam_among P ts → EachParam_among Q ts → ⊥
    HasParam_among-never none h g = h
    HasParam_among-never (also t ts) h g = elim h [ inl a ↦ HasParam-never t a g.0 | inr b ↦ HasParam_among-never ts b g.1 ]

-- no leaf of the tree is a parameter
abbrev pub NoParam : {I : Type 0} → ℕ → Tree I → Type 0
NoParam k t = Each (λ j d. ⊤) (λ j s i name. ⊥) k t

abbrev pub NoParam_among : {I : Type 0} → ℕ → Forest I → Type 0
NoParam_among k ts = Each_all (λ j d. ⊤) (λ j s i name. ⊥) k ts

or-false : (a b : Bool) → a || b ≡ false → (a ≡ false) × (b ≡ false)
or-false true b h = cc
or-false false b h = (refl, h)

mutual
  -- where the test finds none, there is none
  pub NoParam-from_test : {I : Type 0} (k : ℕ) (t : Tree I) → holds_param t ≡ false → NoParam k t
  NoParam-from_test k (param s i name) h = cc
  NoParam-from_test k (bound s d e) h = tt
  NoParam-from_test k (region r) h = tt
  NoParam-from_test k (term l ts) h = NoParam_among-from_test k ts h
  NoParam-from_test k (node l ts) h = NoParam_among-from_test k ts h
  NoParam-from_test k (binder vs t) h = NoParam-from_test (suc k) t h

  pub NoParam_among-from_test : {I : Type 0} (k : ℕ) (ts : Forest I) → holds_param_among ts ≡ false → NoParam_among k ts
  NoParam_among-from_test k none h = tt
  NoParam_among-from_test k (also t ts) h =
      (NoParam-from_test k t ((or-false (holds_param t) (holds_param_among ts) h).0), NoParam_among-from_test k ts ((or-false (holds_param t) (holds_param_among ts) h).1))

mutual
  -- and the other way round
  pub holds_param-none : {I : Type 0} (k : ℕ) (t : Tree I) → NoParam k t → holds_param t ≡ false
  holds_param-none k (param s i name) h = absurd h
  holds_param-none k (bound s d e) h = refl
  holds_param-none k (region r) h = refl
  holds_param-none k (term l ts) h = holds_param_among-none k ts h
  holds_param-none k (node l ts) h = holds_param_among-none k ts h
  holds_param-none k (binder vs t) h = holds_param-none (suc k) t h

  pub holds_param_among-none : {I : Type 0} (k : ℕ) (ts : Forest I) → NoParam_among k ts → holds_param_among ts ≡ false
  holds_param_among-none k none h = refl
  holds_param_among-none k (also t ts) h = rw (holds_param-none k t h.0) (holds_param_among-none k ts h.1)

or-true : (a b : Bool) → a || b ≡ true → (a ≡ true) ⊎ (b ≡ true)
or-true true b h = inl refl
or-true false b h = inr h

mutual
  -- where the test finds one, there is one
  pub IsGeneric-from_test : {I : Type 0} (t : Tree I) → holds_param t ≡ true → IsGeneric t
  IsGeneric-from_test (param s i name) h = tt
  IsGeneric-from_test (bound s d e) h = cc
  IsGeneric-from_test (region r) h = cc
  IsGeneric-from_test (term l ts) h = IsGeneric_among-from_test ts h
  IsGeneric-from_test (node l ts) h = IsGeneric_among-from_test ts h
  IsGeneric-from_test (binder vs t) h = IsGeneric-from_test t h

  -- if the test finds a parameter among trees in order, there is one in one of them
  pub IsGeneric_among-from_test : {I : Type 0} (ts : Forest I) → holds_param_among ts ≡ true → IsGeneric_among ts
  IsGeneric_among-from_test none h = cc
  IsGeneric_among-from_test (also t ts) h = elim (or-true (holds_param t) (holds_param_among ts) h)
      [ inl a ↦ inl (IsGeneric-from_test t a) | inr b ↦ inr (IsGeneric_among-from_test ts b) ]

-- what holds no parameter is not changed by instantiation
pub inst_tree-none : (k : ℕ) (args : List (Argument Depth)) (t : Tree Depth) → holds_param t ≡ false → inst_tree k args t ≡ t
inst_tree-none k args t h =
    rebuild-same (λ j d. d) (λ j d. d) (given_under args) keep k t (Each-then _ _ _ _ (λ j d x. refl) (λ j s i name x. absurd x) k t (NoParam-from_test k t h))
    ∙ rebuild-nothing k t

-- where each parameter has an argument, and no argument holds a parameter, the result holds none
pub holds_param-put : (args : List (Argument Place)) (r : Tree Place) → IsAnswered args r → ArgumentsHoldNone args → holds_param (put args r) ≡ false
holds_param-put args r h g = holds_param-none 0 (put args r)
    (Each-replace _ _ (λ p. p) (given args) 0 r (Each-then _ _ _ _ (λ j p x. tt) (λ j s i name. answered j s i name) 0 r (Each-from_params (λ s i. IsSome (argument args s i)) 0 r h)))
  where
    at_value : (j : ℕ) (s : Sort) (i : ℕ) (name : Name) (o : Option (Tree Place)) → argument args s i ≡ o → IsSome o → NoParam j (unwrap_or o (param s i name))
    at_value j s i name None e x = cc
    at_value j s i name (Some t) e x = NoParam-from_test j t (g s i t e)

    answered : (j : ℕ) (s : Sort) (i : ℕ) (name : Name) → IsSome (argument args s i) → NoParam j (given args s i name)
    answered j s i name x = at_value j s i name (argument args s i) refl x

mutual
  -- a condition on parameters is met where there is none
  pub EachParam-none : {I : Type 0} (P : Sort → ℕ → Type 0) (t : Tree I) → holds_param t ≡ false → EachParam P t
  EachParam-none P (param s i name) h = cc
  EachParam-none P (bound s d e) h = tt
  EachParam-none P (region r) h = tt
  EachParam-none P (term l ts) h = EachParam_among-none P ts h
  EachParam-none P (node l ts) h = EachParam_among-none P ts h
  EachParam-none P (binder vs t) h = EachParam-none P t h

  pub EachParam_among-none : {I : Type 0} (P : Sort → ℕ → Type 0) (ts : Forest I) → holds_param_among ts ≡ false → EachParam_among P ts
  EachParam_among-none P none h = tt
  EachParam_among-none P (also t ts) h =
      (EachParam-none P t ((or-false (holds_param t) (holds_param_among ts) h).0), EachParam_among-none P ts ((or-false (holds_param t) (holds_param_among ts) h).1))

-- where the test finds no parameter, there is none
pub IsGeneric-never : {I : Type 0} (t : Tree I) → holds_param t ≡ false → IsGeneric t → ⊥
IsGeneric-never t h g = HasParam-never (λ s i. ⊤) (λ s i. ⊥) (λ s i x y. y) t g (EachParam-none (λ s i. ⊥) t h)
