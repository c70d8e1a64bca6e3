-- Which implementations a program may have.
use Rattle.std.specs.Prelude.{◌≡◌, ℕ, List, Some, None, ⊤, slice_get}
use Rattle.tt_kinds.specs.Tree.{Depth, Place, Tree, param, bound, region, term, node, binder, Forest, none, also}
use Rattle.tt_kinds.specs.Argument.{Argument, readings}
use Rattle.tt_kinds.specs.Param.{IsAnswered}
use Rattle.tt_kinds.specs.Reading.{greatest_reach}
use Rattle.unify.specs.Substitution.{variable_of}
use Rattle.solver.specs.Derivations.{Implementation, AreArguments}

abbrev mutual
  -- no inference variable is in the reading
  pub IsGround : Tree Place → Type 0
  IsGround (param s i name) = ⊤
  IsGround (bound s p e) = ⊤
  IsGround (region r) = ⊤
  IsGround (term l rs) = (variable_of l ≡ None) × AreGround rs
  IsGround (node l rs) = AreGround rs
  IsGround (binder vs r) = IsGround r

  -- the same for readings in order
  pub AreGround : Forest Place → Type 0
  AreGround none = ⊤
  AreGround (also r rs) = IsGround r × AreGround rs

-- no inference variable is in the goal, no variable is bound outside of it, and each parameter in it is one of n types
pub record IsWrittenGoal (n : ℕ) (goal : Tree Place) : Type 0 where
  pub ground : IsGround goal
  pub closed : greatest_reach goal ≡ 0
  pub answered : (args : List (Argument Depth)) → AreArguments n args → IsAnswered (readings args) goal

-- the head and the conditions are so
pub record IsWritten (i : Implementation) : Type 0 where
  pub head : IsWrittenGoal i.params i.head
  pub conditions : (j : ℕ) (c : Tree Place) → slice_get i.conditions j ≡ Some c → IsWrittenGoal i.params c

-- each implementation is so
abbrev pub AreWritten : List Implementation → Type 0
AreWritten impls = (k : ℕ) (i : Implementation) → slice_get impls k ≡ Some i → IsWritten i
