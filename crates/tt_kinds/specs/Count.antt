-- The places of a tree with types that a walk has to enter.
use Rattle.std.specs.Prelude.{ℕ, suc, List, [], ◌∷◌, ◌++◌, length, nat_lt, if◌then◌else◌, Bool, true, false, ◌&&◌}
use Rattle.tt_kinds.specs.Label.{Sort, type_sort, is_type}
use Rattle.tt_kinds.specs.Tree.{Depth, Tree, param, bound, region, term, node, binder, Forest, none, also}
use Rattle.tt_kinds.specs.Reading.{outer_binder}
use Rattle.tt_kinds.specs.Param.{holds_param_among}

-- a type, and the number of binders above it
pub record TypeAt : Type 0 where
  pub standing : Tree Depth
  pub under : ℕ

-- the tree under k binders if the test holds, and nothing otherwise
abbrev pub type_if : Bool → Tree Depth → ℕ → List TypeAt
type_if b t k = if b then record { standing = t; under = k } ∷ [] else []

abbrev mutual
  -- each place, in a tree under k binders, of a type that holds a parameter but isn't a parameter itself
  pub generic_types : ℕ → Tree Depth → List TypeAt
  generic_types k (param s i name) = []
  generic_types k (bound s d e) = []
  generic_types k (region r) = []
  generic_types k (term l ts) = type_if (is_type l && holds_param_among ts) (term l ts) k ++ generic_types_among k ts
  generic_types k (node l ts) = generic_types_among k ts
  generic_types k (binder vs t) = generic_types (suc k) t

  pub generic_types_among : ℕ → Forest Depth → List TypeAt
  generic_types_among k none = []
  generic_types_among k (also t ts) = generic_types k t ++ generic_types_among k ts

-- how many places a tree has with types that hold a parameter but aren't parameters themselves
abbrev pub place_count : Tree Depth → ℕ
place_count t = length (generic_types 0 t)

-- a leaf of the sort is a type
abbrev pub is_type_sort : Sort → Bool
is_type_sort type_sort = true
is_type_sort _ = false

abbrev mutual
  -- each place, in a tree under k binders, of a type with a variable bound outside of all binders above the type
  pub moving_types : ℕ → Tree Depth → List TypeAt
  moving_types k (param s i name) = []
  moving_types k (bound s d e) = type_if (is_type_sort s && nat_lt k (outer_binder (bound s d e))) (bound s d e) k
  moving_types k (region r) = []
  moving_types k (term l ts) = type_if (is_type l && nat_lt k (outer_binder (term l ts))) (term l ts) k
      ++ moving_types_among k ts
  moving_types k (node l ts) = moving_types_among k ts
  moving_types k (binder vs t) = moving_types (suc k) t

  pub moving_types_among : ℕ → Forest Depth → List TypeAt
  moving_types_among k none = []
  moving_types_among k (also t ts) = moving_types k t ++ moving_types_among k ts
