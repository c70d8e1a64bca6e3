-- What is derived is derived in general.
use Rattle.std.specs.Prelude.{◌≡◌, ℕ, List, ◌++◌, Some, map, slice_get}
use Rattle.tt_kinds.specs.Label.{type_sort}
use Rattle.tt_kinds.specs.Tree.{Depth, Place, Tree}
use Rattle.tt_kinds.specs.Argument.{Argument}
use Rattle.unify.specs.Substitution.{IsType}
use Rattle.unify.specs.Triangular.{IsClosed}
use Rattle.solver.specs.Answers.{IsYes}
use Rattle.solver.specs.Derivations.{Implementation, Derives, instance_of}
use Rattle.solver.specs.Written.{AreWritten}

-- no variable is bound outside of an argument, and the arguments of the sort of types are types
abbrev pub ArePlain : List (Argument Depth) → Type 0
ArePlain args = (k : ℕ) (a : Argument Depth) → slice_get args k ≡ Some a
    → IsClosed a.value × (a.sort ≡ type_sort → IsType a.value)

-- what is derived stays derived where parameters are replaced in the goal and the assumptions, where inference variables
-- are, and where further implementations are declared
pub record AreStable (impls : List Implementation) : Type 0 where
  pub parameters : (assumptions : List (Tree Place)) (goal : Tree Place) (args : List (Argument Depth)) → ArePlain args
      → Derives impls assumptions goal → Derives impls (map (instance_of args) assumptions) (instance_of args goal)
  pub variables : (assumptions : List (Tree Place)) (goal : Tree Place) → Derives impls assumptions goal
      → IsYes impls assumptions goal
  pub further : (assumptions : List (Tree Place)) (goal : Tree Place) (more : List Implementation)
      → Derives impls assumptions goal → Derives (impls ++ more) assumptions goal

-- derivations from written implementations are stable
abbrev pub DerivationsAreStable : Type 0
DerivationsAreStable = (impls : List Implementation) → AreWritten impls → AreStable impls
