-- Which parameters a tree holds.
use Rattle.std.specs.Prelude.{ℕ, List, Bool, true, false, ◌||◌, ◌⊎◌, ⊤, IsSome, Some, ◌≡◌}
use Rattle.tt_kinds.specs.Label.{Sort}
use Rattle.tt_kinds.specs.Tree.{Tree, param, bound, region, term, node, binder, Forest, none, also}
use Rattle.tt_kinds.specs.Argument.{Argument, argument}

module _ {I : Type 0} where
  abbrev mutual
    -- a parameter occurs in the tree
    pub holds_param : Tree I → Bool
    holds_param (param s i name) = true
    holds_param (bound s d e) = false
    holds_param (region r) = false
    holds_param (term l ts) = holds_param_among ts
    holds_param (node l ts) = holds_param_among ts
    holds_param (binder vs t) = holds_param t

    pub holds_param_among : Forest I → Bool
    holds_param_among none = false
    holds_param_among (also t ts) = holds_param t || holds_param_among ts

module _ {I : Type 0} (P : Sort → ℕ → Type 0) where
  abbrev mutual
    -- a parameter whose sort and index meet P occurs in the tree
    pub HasParam : Tree I → Type 0
    HasParam (param s i name) = P s i
    HasParam (bound s d e) = ⊥
    HasParam (region r) = ⊥
    HasParam (term l ts) = HasParam_among ts
    HasParam (node l ts) = HasParam_among ts
    HasParam (binder vs t) = HasParam t

    pub HasParam_among : Forest I → Type 0
    HasParam_among none = ⊥
    HasParam_among (also t ts) = HasParam t ⊎ HasParam_among ts

module _ {I : Type 0} (P : Sort → ℕ → Type 0) where
  abbrev mutual
    -- the sort and the index of each parameter of the tree meet P
    pub EachParam : Tree I → Type 0
    EachParam (param s i name) = P s i
    EachParam (bound s d e) = ⊤
    EachParam (region r) = ⊤
    EachParam (term l ts) = EachParam_among ts
    EachParam (node l ts) = EachParam_among ts
    EachParam (binder vs t) = EachParam t

    pub EachParam_among : Forest I → Type 0
    EachParam_among none = ⊤
    EachParam_among (also t ts) = EachParam t × EachParam_among ts

-- the tree is a parameter of the sort and the index
abbrev pub IsParam : {I : Type 0} → Sort → ℕ → Tree I → Type 0
IsParam sort index (param s i name) = (s ≡ sort) × (i ≡ index)
IsParam sort index _ = ⊥

-- some parameter occurs in the tree
abbrev pub IsGeneric : {I : Type 0} → Tree I → Type 0
IsGeneric t = HasParam (λ s i. ⊤) t

abbrev pub IsGeneric_among : {I : Type 0} → Forest I → Type 0
IsGeneric_among ts = HasParam_among (λ s i. ⊤) ts

-- each parameter of the tree has an argument of its sort
abbrev pub IsAnswered : {I J : Type 0} → List (Argument J) → Tree I → Type 0
IsAnswered args t = EachParam (λ s i. IsSome (argument args s i)) t

-- no value of the arguments holds a parameter
abbrev pub ArgumentsHoldNone : {I : Type 0} → List (Argument I) → Type 0
ArgumentsHoldNone {I = I} args = (s : Sort) (i : ℕ) (t : Tree I) → argument args s i ≡ Some t → holds_param t ≡ false
