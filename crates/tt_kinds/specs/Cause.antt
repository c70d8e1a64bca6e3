-- Why an instantiation is refused.
use Rattle.std.specs.Prelude.{ℕ, List, [], length, ◌≡◌, ◌≢◌, ◌≤◌, ◌⊎◌, false, IsTrue, not, IsSomeAnd, slice_get}
use Rattle.std.specs.Bool.{OnTrue}
use Rattle.tt_kinds.specs.Label.{Name, Sort, FreeRegion, region_var, is_type_or_clause}
use Rattle.tt_kinds.specs.Tree.{Depth, Tree, param, bound, region, term, node, binder, Forest, none, also}
use Rattle.tt_kinds.specs.Argument.{Argument, same_sort}
use Rattle.tt_kinds.specs.Param.{holds_param, HasParam, IsGeneric, IsGeneric_among}
use Rattle.tt_index.specs.declared.refusal.Refusal.{Refusal}
use Rattle.tt_index.specs.declared.refusal.Refusal.TheVariants.{NoArguments, ArgOutOfRange, ArgKind, RegionVariable}

-- the region is the inference variable x
abbrev pub IsRegionVar : ℕ → FreeRegion Name → Type 0
IsRegionVar x (region_var y) = y ≡ x
IsRegionVar x _ = ⊥

module _ {I : Type 0} (x : ℕ) where
  abbrev mutual
    -- the region variable x occurs in the tree where every type, predicate and clause list around it holds a parameter
    pub HasExposed : Tree I → Type 0
    HasExposed (param s i name) = ⊥
    HasExposed (bound s d e) = ⊥
    HasExposed (region r) = IsRegionVar x r
    HasExposed (term l ts) = OnTrue (is_type_or_clause l) (IsGeneric_among ts) × HasExposed_among ts
    HasExposed (node l ts) = HasExposed_among ts
    HasExposed (binder vs t) = HasExposed t

    pub HasExposed_among : Forest I → Type 0
    HasExposed_among none = ⊥
    HasExposed_among (also t ts) = HasExposed t ⊎ HasExposed_among ts

-- each region variable of the tree is in a type, predicate or clause list without parameters
abbrev pub HidesRegionVars : {I : Type 0} → Tree I → Type 0
HidesRegionVars t = (x : ℕ) → HasExposed x t → ⊥

-- no parameter occurs in the tree, and no region variable is exposed
abbrev pub IsUntouched : {I : Type 0} → Tree I → Type 0
IsUntouched t = (holds_param t ≡ false) × HidesRegionVars t

-- the argument at the index is there and has another sort
abbrev pub HasOtherSort : {I : Type 0} → List (Argument I) → Sort → ℕ → Type 0
HasOtherSort args s i = IsSomeAnd (slice_get args i) (λ a. IsTrue (not (same_sort s a.sort)))

-- the refusal's cause is in the tree and the arguments
abbrev pub Cause : Tree Depth → List (Argument Depth) → Refusal → Type 0
Cause t args NoArguments = (args ≡ []) × IsGeneric t
Cause t args (ArgOutOfRange index) = (args ≢ []) × HasParam (λ s i. i ≡ index) t × (length args ≤ index)
Cause t args (ArgKind index) = HasParam (λ s i. (i ≡ index) × HasOtherSort args s i) t
Cause t args (RegionVariable x) = (args ≢ []) × HasExposed x t
Cause t args _ = ⊥
