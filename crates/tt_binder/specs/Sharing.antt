-- How many types the shifts of arguments take apart, if each shift is made once.
use Rattle.std.specs.Prelude.{◌≡◌, ◌⊎◌, ◌<◌, ◌≤◌, ◌+◌, ℕ, suc, List, [], length, Option, Some, None, slice_get}
use Rattle.tt_kinds.specs.Tree.{Depth, Tree, Forest, param, bound, region, term, node, binder, none, also}
use Rattle.tt_kinds.specs.Argument.{Argument}
use Rattle.tt_kinds.specs.Count.{TypeAt, moving_types}
use Rattle.tt_fold.specs.Places.{IsIn, AreDistinct}
use Rattle.tt_binder.specs.declared.shifted.ParamAt.{ParamAt}

abbrev mutual
  -- a parameter of the index occurs, under the number of binders, in a tree under k binders
  pub IsParamIn : ParamAt → ℕ → Tree Depth → Type 0
  IsParamIn p k (param s i name) = (i ≡ p.index) × (k ≡ p.under)
  IsParamIn p k (bound s d e) = ⊥
  IsParamIn p k (region r) = ⊥
  IsParamIn p k (term l ts) = IsParamAmong p k ts
  IsParamIn p k (node l ts) = IsParamAmong p k ts
  IsParamIn p k (binder vs t) = IsParamIn p (suc k) t

  pub IsParamAmong : ParamAt → ℕ → Forest Depth → Type 0
  IsParamAmong p k none = ⊥
  IsParamAmong p k (also t ts) = IsParamIn p k t ⊎ IsParamAmong p k ts

-- the types of an argument that have a variable to be shifted, each with the binders above it
abbrev pub moving_of : Option (Argument Depth) → List TypeAt
moving_of None = []
moving_of (Some a) = moving_types 0 a.value

abbrev pub moving_at : List (Argument Depth) → ℕ → List TypeAt
moving_at args i = moving_of (slice_get args i)

-- the parameter occurs in the value, under at least one binder, and the type of its argument has a variable to be
-- shifted
pub record IsMovedFor (args : List (Argument Depth)) (t : Tree Depth) (p : ParamAt) (u : TypeAt) : Type 0 where
  pub under_some : 0 < p.under
  pub param : IsParamIn p 0 t
  pub moving : IsIn u (moving_at args p.index)

-- A count grew by no more than the number of distinct pairs of a parameter, by its index and the binders above it, and
-- a type that a shift of its argument takes apart: `moved` are some of these pairs, each once, and at least as many as
-- the count grew by.
pub record CountsShifts (args : List (Argument Depth)) (t : Tree Depth) (before after : ℕ) : Type 0 where
  pub moved : List (ParamAt × TypeAt)
  pub distinct : AreDistinct moved
  pub each : (x : ParamAt × TypeAt) → IsIn x moved → IsMovedFor args t x.0 x.1
  pub few : after ≤ before + length moved
