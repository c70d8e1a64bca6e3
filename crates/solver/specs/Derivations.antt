-- What is derived from implementations and assumptions. Goals are readings, so nothing is shifted or captured.
use Rattle.std.specs.Prelude.{◌≡◌, ℕ, List, Some, length, slice_get}
use Rattle.tt_kinds.specs.Label.{type_sort}
use Rattle.tt_kinds.specs.Tree.{Depth, Place, Tree}
use Rattle.tt_kinds.specs.Argument.{Argument, put, readings}
use Rattle.unify.specs.Substitution.{IsType}
use Rattle.unify.specs.Triangular.{IsClosed}

-- `impl<..> head where conditions`: how many parameters there are, all of them types, and the goals
pub record Implementation : Type 0 where
  pub params : ℕ
  pub head : Tree Place
  pub conditions : List (Tree Place)

-- the argument is a type in which no variable is bound outside of it
pub record IsTypeArgument (a : Argument Depth) : Type 0 where
  pub sorted : a.sort ≡ type_sort
  pub type : IsType a.value
  pub closed : IsClosed a.value

-- there is one argument for each of n parameters, and each is a type
pub record AreArguments (n : ℕ) (args : List (Argument Depth)) : Type 0 where
  pub counted : length args ≡ n
  pub each : (k : ℕ) (a : Argument Depth) → slice_get args k ≡ Some a → IsTypeArgument a

-- the goal with each parameter replaced by its argument
abbrev pub instance_of : List (Argument Depth) → Tree Place → Tree Place
instance_of args goal = put (readings args) goal

module _ (impls : List Implementation) (assumptions : List (Tree Place)) where
  -- the goal is derived: it is an assumption, or the head of an implementation at arguments at which each condition is
  -- derived
  pub data Derives : Tree Place → Type 0 where
    assumed : (k : ℕ) {goal : Tree Place} → slice_get assumptions k ≡ Some goal → Derives goal
    implemented : (k : ℕ) (i : Implementation) {goal : Tree Place} → slice_get impls k ≡ Some i
        → (args : List (Argument Depth)) → AreArguments i.params args → goal ≡ instance_of args i.head
        → ((j : ℕ) (c : Tree Place) → slice_get i.conditions j ≡ Some c → Derives (instance_of args c)) → Derives goal
