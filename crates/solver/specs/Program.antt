-- Programs as the code has them, with goals as readings.
use Rattle.std.specs.Prelude.{◌≡◌, ℕ, List, Some, map, slice_get}
use Rattle.tt_kinds.specs.Argument.{Argument}
use Rattle.tt_kinds.specs.Handle.{GenericArgs}
use Rattle.tt_kinds.specs.Reading.{read}
use Rattle.tt_kinds.specs.Tree.{Depth, Place, Tree}
use Rattle.tt_kinds.specs.Values.{trait_predicate_shape}
use Rattle.tt_kinds.specs.declared.predicate.TraitPredicate.{TraitPredicate}
use Rattle.tt_interner.specs.Arguments.{arguments, args_at}
use Rattle.tt_interner.specs.Owned.{AreOwned, IsOwned, tree_by}
use Rattle.tt_interner.specs.Stored.{Terms}
use Rattle.solver.specs.Derivations.{Implementation}
use Rattle.solver.specs.Written.{AreWritten}
use Rattle.solver.specs.declared.program.Impl.{Impl}

-- the trees of a list of arguments
abbrev pub argument_trees : Terms → GenericArgs → List (Argument Depth)
argument_trees terms args = arguments terms.rows (args_at terms.rows args)

-- the goal as a reading
abbrev pub goal_in : Terms → TraitPredicate → Tree Place
goal_in terms goal = read 0 (tree_by trait_predicate_shape terms.rows goal)

-- the goals as readings
abbrev pub goals_in : Terms → List TraitPredicate → List (Tree Place)
goals_in terms goals = map (goal_in terms) goals

-- the implementation with its goals as readings
abbrev pub impl_in : Terms → Impl → Implementation
impl_in terms i = record {
  params = i.params;
  head = goal_in terms i.head;
  conditions = goals_in terms i.conditions.items;
}

-- the implementations with their goals as readings
abbrev pub impls_in : Terms → List Impl → List Implementation
impls_in terms impls = map (impl_in terms) impls

-- the handles in the implementation are the interner's
pub record IsOwnedImpl (terms : Terms) (i : Impl) : Type 0 where
  pub head : IsOwned trait_predicate_shape terms i.head
  pub conditions : AreOwned trait_predicate_shape terms i.conditions.items

-- the implementations are the interner's, and could be declared
pub record IsProgram (terms : Terms) (impls : List Impl) : Type 0 where
  pub owned : (k : ℕ) (i : Impl) → slice_get impls k ≡ Some i → IsOwnedImpl terms i
  pub written : AreWritten (impls_in terms impls)
