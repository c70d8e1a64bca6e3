-- Logs as the code has them.
use Rattle.std.specs.Prelude.{◌≡◌, ℕ, List, Some, ⊤, slice_get}
use Rattle.tt_kinds.specs.Handle.{GenericArgs}
use Rattle.tt_kinds.specs.Kinds.{args_shape}
use Rattle.tt_kinds.specs.Values.{trait_predicate_shape}
use Rattle.tt_kinds.specs.declared.predicate.TraitPredicate.{TraitPredicate}
use Rattle.tt_interner.specs.Owned.{IsOwned}
use Rattle.tt_interner.specs.Stored.{Terms}
use Rattle.solver.specs.Derivations.{Derives, instance_of}
use Rattle.solver.specs.Program.{argument_trees, goal_in, goals_in, impls_in}
use Rattle.solver.specs.declared.log.Line.{Line}
use Rattle.solver.specs.declared.log.Reason.{Reason}
use Rattle.solver.specs.declared.log.Reason.TheVariants.{Assumed, Implemented}
use Rattle.solver.specs.declared.program.Impl.{Impl}

-- the handles in the reason are the interner's
abbrev pub IsOwnedReason : Terms → Reason → Type 0
IsOwnedReason terms (Assumed k) = ⊤
IsOwnedReason terms (Implemented k args conditions) = IsOwned args_shape terms args

-- the handles in the line are the interner's
pub record IsOwnedLine (terms : Terms) (line : Line) : Type 0 where
  pub goal : IsOwned trait_predicate_shape terms line.goal
  pub reason : IsOwnedReason terms line.reason

-- the handles in the lines are the interner's
abbrev pub AreOwnedLines : Terms → List Line → Type 0
AreOwnedLines terms lines = (k : ℕ) (line : Line) → slice_get lines k ≡ Some line → IsOwnedLine terms line

-- each line's goal is derived
abbrev pub AreDerived : Terms → List Impl → List TraitPredicate → List Line → Type 0
AreDerived terms impls assumptions lines = (k : ℕ) (line : Line) → slice_get lines k ≡ Some line
    → Derives (impls_in terms impls) (goals_in terms assumptions) (goal_in terms line.goal)

-- the condition has a line, whose goal is the condition's instance
abbrev pub IsMet : Terms → GenericArgs → List Line → TraitPredicate → Type 0
IsMet terms args lines c = (k : ℕ) × (line : Line) × (slice_get lines k ≡ Some line)
    × (goal_in terms line.goal ≡ instance_of (argument_trees terms args) (goal_in terms c))

-- each condition has such a line
abbrev pub AreMet : Terms → List TraitPredicate → GenericArgs → List Line → Type 0
AreMet terms conditions args lines = (j : ℕ) (c : TraitPredicate) → slice_get conditions j ≡ Some c
    → IsMet terms args lines c
