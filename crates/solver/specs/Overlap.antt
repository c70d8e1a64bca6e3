-- Implementations that apply to one goal.
use Rattle.std.specs.Prelude.{◌≡◌, ◌<◌, ℕ, List, Some, slice_get}
use Rattle.tt_kinds.specs.Argument.{Argument}
use Rattle.tt_kinds.specs.Tree.{Depth, Place, Tree}
use Rattle.solver.specs.Derivations.{AreArguments, Implementation, instance_of}

-- the goal is an instance of the implementation's head
abbrev pub AppliesTo : Implementation → Tree Place → Type 0
AppliesTo i goal = (args : List (Argument Depth)) × AreArguments i.params args × (goal ≡ instance_of args i.head)

-- the implementation of this number applies to the goal
abbrev pub AppliesAt : List Implementation → ℕ → Tree Place → Type 0
AppliesAt impls k goal = (i : Implementation) × (slice_get impls k ≡ Some i) × AppliesTo i goal

-- an implementation and an earlier one apply to the goal
pub record IsOverlap (impls : List Implementation) (first second : ℕ) (goal : Tree Place) : Type 0 where
  pub ordered : first < second
  pub earlier : AppliesAt impls first goal
  pub later : AppliesAt impls second goal

-- no goal is an instance of both heads
abbrev pub AreApart : Implementation → Implementation → Type 0
AreApart i l = (goal : Tree Place) → AppliesTo i goal → AppliesTo l goal → ⊥

-- no two implementations apply to one goal
abbrev pub IsCoherent : List Implementation → Type 0
IsCoherent impls = (j k : ℕ) (i l : Implementation) → j < k → slice_get impls j ≡ Some i → slice_get impls k ≡ Some l
    → AreApart i l
