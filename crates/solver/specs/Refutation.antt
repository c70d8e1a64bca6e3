-- Goals that refute one another, and what the check of a refutation finds out.
use Rattle.std.specs.Prelude.{◌≡◌, ℕ, zero, suc, List, [], ◌∷◌, Bool, Some, IsSome, IsTrue, slice_get}
use Rattle.tt_kinds.specs.Argument.{Argument}
use Rattle.tt_kinds.specs.GenericArg.{type_of}
use Rattle.tt_kinds.specs.Kinds.{arg_shape}
use Rattle.tt_kinds.specs.Label.{type_sort}
use Rattle.tt_kinds.specs.Tree.{Depth, Place, Tree}
use Rattle.tt_kinds.specs.Values.{trait_predicate_shape}
use Rattle.tt_kinds.specs.declared.generic_arg.GenericArgKind.{GenericArgKind}
use Rattle.tt_kinds.specs.declared.predicate.TraitPredicate.{TraitPredicate}
use Rattle.tt_interner.specs.Arguments.{args_at}
use Rattle.tt_interner.specs.Owned.{tree_by, tree_in}
use Rattle.tt_interner.specs.Stored.{Terms}
use Rattle.unify.specs.Substitution.{Assignment, IsOwn, GivesClosed, Solves, Substitution, assign, variable_tree}
use Rattle.solver.specs.Answers.{IsAssignment, IsNo, assigned}
use Rattle.solver.specs.Derivations.{AreArguments, Implementation, instance_of}
use Rattle.solver.specs.Program.{goal_in, goals_in, impls_in}
use Rattle.solver.specs.declared.program.Impl.{Impl}

-- the goal is one of these
abbrev pub IsOneOf : Tree Place → List (Tree Place) → Type 0
IsOneOf goal goals = (k : ℕ) × (slice_get goals k ≡ Some goal)

-- wherever the goal is an instance of the implementation's head, one of the conditions becomes one of the goals
abbrev pub NeedsOneOf : List (Tree Place) → Tree Place → Implementation → Type 0
NeedsOneOf goals goal i = (args : List (Argument Depth)) → AreArguments i.params args → goal ≡ instance_of args i.head
    → (j : ℕ) × (c : Tree Place) × (slice_get i.conditions j ≡ Some c) × IsOneOf (instance_of args c) goals

-- the goal is no assumption, and needs one of the goals at each implementation
pub record IsUnfounded (impls : List Implementation) (assumptions goals : List (Tree Place)) (goal : Tree Place) : Type 0 where
  pub assumed : (k : ℕ) (a : Tree Place) → slice_get assumptions k ≡ Some a → goal ≡ a → ⊥
  pub implemented : (k : ℕ) (i : Implementation) → slice_get impls k ≡ Some i → NeedsOneOf goals goal i

-- no goal of the list is derived
abbrev pub AreRefuted : Terms → List Impl → List TraitPredicate → List TraitPredicate → Type 0
AreRefuted terms impls assumptions goals = (k : ℕ) (goal : TraitPredicate) → slice_get goals k ≡ Some goal
    → IsNo (impls_in terms impls) (goals_in terms assumptions) (goal_in terms goal)

-- a variable for each of n parameters, from the variable of this number on
abbrev pub variables_from : ℕ → ℕ → List (Argument Depth)
variables_from v zero = []
variables_from v (suc n) = record { sort = type_sort; value = variable_tree v } ∷ variables_from (suc v) n

-- the assignment gives types without a variable bound outside of them to the first n variables alone, and solves the
-- bindings
pub record IsOwnSolution (n : ℕ) (σ : Substitution) (ρ : Assignment) : Type 0 where
  pub own : IsOwn n ρ
  pub closed : GivesClosed ρ
  pub solves : Solves ρ σ

-- a comparison that binds variables finds out whether two values can be made equal: a solution of the earlier bindings
-- that makes them equal solves the later ones, and there is none if the answer is no
abbrev pub IsForced : ℕ → Substitution → (Assignment → Type 0) → Bool → Substitution → Type 0
IsForced n σ IsEqualAt found later = (ρ : Assignment) → IsOwnSolution n σ ρ → IsEqualAt ρ → IsTrue found × Solves ρ later

-- each argument of the list is a type
abbrev pub AreTypes : List GenericArgKind → Type 0
AreTypes items = (k : ℕ) (a : GenericArgKind) → slice_get items k ≡ Some a → IsSome (type_of a)

-- each argument of the goal is a type
abbrev pub IsOfTypes : Terms → TraitPredicate → Type 0
IsOfTypes terms goal = AreTypes (args_at terms.rows goal.trait_ref.args)

-- the assignment makes the two arguments one tree
abbrev pub EquatesArgs : Terms → GenericArgKind → GenericArgKind → Assignment → Type 0
EquatesArgs terms a b ρ = assign ρ (tree_in terms.rows (arg_shape a)) ≡ assign ρ (tree_in terms.rows (arg_shape b))

-- and so for each two arguments of one place in the lists
abbrev pub EquatesItems : Terms → List GenericArgKind → List GenericArgKind → Assignment → Type 0
EquatesItems terms lefts rights ρ = (k : ℕ) (a b : GenericArgKind) → slice_get lefts k ≡ Some a → slice_get rights k ≡ Some b
    → EquatesArgs terms a b ρ

-- the assignment makes the two goals one tree
abbrev pub EquatesGoals : Terms → TraitPredicate → TraitPredicate → Assignment → Type 0
EquatesGoals terms left right ρ =
    assign ρ (tree_by trait_predicate_shape terms.rows left) ≡ assign ρ (tree_by trait_predicate_shape terms.rows right)

-- types that solve the bindings make of the condition's instance one of the goals
abbrev pub BecomesOneOf : Terms → Substitution → List (Argument Depth) → TraitPredicate → List TraitPredicate → Type 0
BecomesOneOf terms σ args condition goals = (ρ : Assignment) → IsAssignment ρ → Solves ρ σ
    → IsOneOf (assigned ρ (instance_of args (goal_in terms condition))) (goals_in terms goals)

-- and so for one of the conditions
abbrev pub OneBecomesOneOf : Terms → Substitution → List (Argument Depth) → List TraitPredicate → List TraitPredicate → Type 0
OneBecomesOneOf terms σ args conditions goals = (j : ℕ) × (c : TraitPredicate) × (slice_get conditions j ≡ Some c)
    × BecomesOneOf terms σ args c goals
