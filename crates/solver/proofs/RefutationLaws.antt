-- Goals that refute one another have no derivation, and what the steps of the check find out.
use Rattle.std.proofs.Common.{◌≡◌, ℕ, zero, suc, List, [], ◌∷◌, map, refl, ap, sym, ◌∙◌, subst}
use Rattle.std.specs.Prelude.{Some, IsTrue, Bool, false, slice_get}
use Rattle.tt_kinds.specs.Argument.{Argument}
use Rattle.tt_kinds.specs.Handle.{GenericArgs}
use Rattle.tt_kinds.specs.Kinds.{args_shape}
use Rattle.tt_kinds.specs.Tree.{Depth, Place, Tree}
use Rattle.tt_kinds.specs.Values.{trait_predicate_shape}
use Rattle.tt_kinds.specs.declared.predicate.TraitPredicate.{TraitPredicate}
use Rattle.tt_interner.specs.Arguments as rows
use Rattle.tt_interner.specs.Owned.{AreOwned, IsOwned, tree_by}
use Rattle.tt_interner.specs.Stored.{Extends, Terms}
use Rattle.tt_interner.proofs.OwnedLaws.{found_owned}
use Rattle.tt_interner.proofs.Growth.{Extends-trans}
use Rattle.unify.specs.Bindings.{IsTable, Table, substitution}
use Rattle.unify.specs.Substitution.{Assignment, Solves, Substitution, apply}
use Rattle.unify.proofs.UnificationLaws.{substitution_stays}
use Rattle.solver.specs.Answers.{IsNo, assigned}
use Rattle.solver.specs.Derivations.{AreArguments, Derives, Implementation, assumed, implemented, instance_of}
use Rattle.solver.specs.Program.{IsOwnedImpl, IsProgram, argument_trees, goal_in, goals_in, impl_in, impls_in}
use Rattle.solver.specs.Refutation.{AreRefuted, BecomesOneOf, EquatesGoals, IsForced, IsOneOf, IsUnfounded, NeedsOneOf, OneBecomesOneOf, variables_from}
use Rattle.solver.specs.Written.{IsGround, IsWritten}
use Rattle.solver.specs.declared.program.Impl.{Impl}
use Rattle.solver.proofs.HeadLaws.{as_given, given_assignment, given_own, ground_stays, head_equated, instance_becomes, resolved_becomes}
use Rattle.solver.proofs.OutcomeLaws.{found_map, found_mapped}
use Rattle.solver.proofs.ProgramLaws.{arguments_stay, goal_stays, goals_stay, impl_stays, impls_stay}

-- each of the goals holds no variable
abbrev pub AllGround : List (Tree Place) → Type 0
AllGround goals = (k : ℕ) (goal : Tree Place) → slice_get goals k ≡ Some goal → IsGround goal

-- goals without variables stay what they are
ground_goals_stay : (ρ : Assignment) (goals : List (Tree Place)) → AllGround goals → map (assigned ρ) goals ≡ goals
ground_goals_stay ρ [] ground = refl
ground_goals_stay ρ (goal ∷ goals) ground =
    rw (ground_stays ρ goal (ground zero goal refl), ground_goals_stay ρ goals (λ k. ground (suc k))) refl

module _ (impls : List Implementation) (assumptions goals : List (Tree Place))
    (unfounded : (k : ℕ) (goal : Tree Place) → slice_get goals k ≡ Some goal → IsUnfounded impls assumptions goals goal) where
  -- a derivation of one of the goals would need a smaller one of another of them
  never : {goal : Tree Place} → Derives impls assumptions goal → IsOneOf goal goals → ⊥
  never {goal} (assumed k at) one = (unfounded one.0 goal one.1).assumed k goal at refl
  never {goal} (implemented k i at args are is conditions) one =
      let needs = (unfounded one.0 goal one.1).implemented k i at args are is in
      never (conditions needs.0 needs.1 needs.2) needs.3

  -- so none is derived
  refuted : AllGround assumptions → AllGround goals → (k : ℕ) (goal : Tree Place) → slice_get goals k ≡ Some goal
      → IsNo impls assumptions goal
  refuted known ground k goal at ρ is derived =
      never (subst (λ a. Derives impls a goal) (ground_goals_stay ρ assumptions known)
      (subst (Derives impls (map (assigned ρ) assumptions)) (ground_stays ρ goal (ground k goal at)) derived)) (k, at)

-- no goal of the list holds a variable
abbrev pub AreGroundGoals : Terms → List TraitPredicate → Type 0
AreGroundGoals terms goals = (k : ℕ) (goal : TraitPredicate) → slice_get goals k ≡ Some goal → IsGround (goal_in terms goal)

ground_readings : (terms : Terms) (goals : List TraitPredicate) → AreGroundGoals terms goals → AllGround (goals_in terms goals)
ground_readings terms goals ground k r at =
    let found = found_mapped (goal_in terms) goals k r at in
    subst IsGround found.2 (ground k found.0 found.1)

-- where no goal has a reason to be derived, none is
pub all_refuted : (terms : Terms) (impls : List Impl) (assumptions goals : List TraitPredicate) → AreGroundGoals terms assumptions
    → AreGroundGoals terms goals
    → ((k : ℕ) (goal : TraitPredicate) → slice_get goals k ≡ Some goal
    → IsUnfounded (impls_in terms impls) (goals_in terms assumptions) (goals_in terms goals) (goal_in terms goal))
    → AreRefuted terms impls assumptions goals
all_refuted terms impls assumptions goals known ground unfounded k goal at =
    refuted (impls_in terms impls) (goals_in terms assumptions) (goals_in terms goals)
    (λ j r there.
    let found = found_mapped (goal_in terms) goals j r there in
    subst (IsUnfounded (impls_in terms impls) (goals_in terms assumptions) (goals_in terms goals)) found.2 (unfounded j found.0 found.1))
    (ground_readings terms assumptions known) (ground_readings terms goals ground) k (goal_in terms goal)
    (found_map (goal_in terms) goals k goal at)

module _ (old new : Terms) (extends : Extends old new) where
  -- goals without variables hold none, whatever the interner builds
  pub ground_stays_so : (goal : TraitPredicate) → IsOwned trait_predicate_shape old goal → IsGround (goal_in old goal)
      → IsGround (goal_in new goal)
  ground_stays_so goal owned ground = subst IsGround (sym (goal_stays old new extends goal owned)) ground

  pub unfounded_before : (impls : List Impl) (assumptions goals : List TraitPredicate) (goal : TraitPredicate) → IsProgram old impls
      → AreOwned trait_predicate_shape old assumptions → AreOwned trait_predicate_shape old goals → IsOwned trait_predicate_shape old goal
      → IsUnfounded (impls_in new impls) (goals_in new assumptions) (goals_in new goals) (goal_in new goal)
      → IsUnfounded (impls_in old impls) (goals_in old assumptions) (goals_in old goals) (goal_in old goal)
  unfounded_before impls assumptions goals goal is known all mine unfounded =
      subst (λ i. IsUnfounded i (goals_in old assumptions) (goals_in old goals) (goal_in old goal)) (impls_stay old new extends impls is.owned)
      (subst (λ a. IsUnfounded (impls_in new impls) a (goals_in old goals) (goal_in old goal)) (goals_stay old new extends assumptions known)
      (subst (λ g. IsUnfounded (impls_in new impls) (goals_in new assumptions) g (goal_in old goal)) (goals_stay old new extends goals all)
      (subst (IsUnfounded (impls_in new impls) (goals_in new assumptions) (goals_in new goals)) (goal_stays old new extends goal mine)
      unfounded)))

  pub needs_before : (goals : List TraitPredicate) (goal : TraitPredicate) (i : Impl) → AreOwned trait_predicate_shape old goals
      → IsOwned trait_predicate_shape old goal → IsOwnedImpl old i → NeedsOneOf (goals_in new goals) (goal_in new goal) (impl_in new i)
      → NeedsOneOf (goals_in old goals) (goal_in old goal) (impl_in old i)
  needs_before goals goal i all mine owned needs =
      subst (NeedsOneOf (goals_in old goals) (goal_in old goal)) (impl_stays old new extends i owned)
      (subst (λ g. NeedsOneOf (goals_in old goals) g (impl_in new i)) (goal_stays old new extends goal mine)
      (subst (λ gs. NeedsOneOf gs (goal_in new goal) (impl_in new i)) (goals_stay old new extends goals all) needs))

  -- an implementation that could be declared could be
  pub impl_still_written : (i : Impl) → IsOwnedImpl old i → IsWritten (impl_in old i) → IsWritten (impl_in new i)
  impl_still_written i owned written = subst IsWritten (sym (impl_stays old new extends i owned)) written

-- no assumption is the goal, which needs one of the goals at each implementation
pub unfounded_of : (terms : Terms) (impls : List Impl) (assumptions goals : List TraitPredicate) (goal : TraitPredicate)
    → ((k : ℕ) (a : TraitPredicate) → slice_get assumptions k ≡ Some a → goal_in terms goal ≡ goal_in terms a → ⊥)
    → ((k : ℕ) (i : Impl) → slice_get impls k ≡ Some i → NeedsOneOf (goals_in terms goals) (goal_in terms goal) (impl_in terms i))
    → IsUnfounded (impls_in terms impls) (goals_in terms assumptions) (goals_in terms goals) (goal_in terms goal)
unfounded_of terms impls assumptions goals goal other needs = record {
  assumed = λ k a at is.
      let found = found_mapped (goal_in terms) assumptions k a at in
      other k found.0 found.1 (is ∙ sym found.2);
  implemented = λ k i at.
      let found = found_mapped (impl_in terms) impls k i at in
      subst (NeedsOneOf (goals_in terms goals) (goal_in terms goal)) found.2 (needs k found.0 found.1);
}

-- what a comparison with an implementation's head finds out: `between` is when the head was made and compared
module _ (old between : Terms) (extends : Extends old between) (i : Impl) (goals : List TraitPredicate) (goal head : TraitPredicate)
    (owned : IsOwnedImpl old i) (written : IsWritten (impl_in old i)) (all : AreOwned trait_predicate_shape old goals)
    (mine : IsOwned trait_predicate_shape old goal) (ground : IsGround (goal_in old goal))
    (plain : goal_in between head ≡ instance_of (variables_from 0 i.params) (goal_in old i.head))
    (σ later : Substitution) (free : (ρ : Assignment) → Solves ρ σ) (found : Bool)
    (forced : IsForced i.params σ (EquatesGoals between goal head) found later) where
  forced_at : (args : List (Argument Depth)) → AreArguments i.params args → goal_in old goal ≡ instance_of args (goal_in old i.head)
      → IsTrue found × Solves (as_given args) later
  forced_at args are is =
      let stays = goal_stays old between extends goal mine in
      forced (as_given args)
      (record {
        own = given_own i.params args are;
        closed = (given_assignment i.params args are).closed;
        solves = free (as_given args);
      })
      (head_equated i.params args are (tree_by trait_predicate_shape between.rows goal) (tree_by trait_predicate_shape between.rows head)
      (goal_in old i.head) (subst IsGround (sym stays) ground) written.head plain (stays ∙ is))

  -- where they can't be made equal, the goal is no instance of the head
  pub needs_nothing : found ≡ false → NeedsOneOf (goals_in old goals) (goal_in old goal) (impl_in old i)
  needs_nothing not_found args are is = absurd (let f = (forced_at args are is).0 in cc)

  -- else one of the conditions becomes one of the goals
  pub needs_one : (n : Terms) (extended : Extends old n)
      → OneBecomesOneOf n later (variables_from 0 i.params) i.conditions.items goals
      → NeedsOneOf (goals_in old goals) (goal_in old goal) (impl_in old i)
  needs_one n extended one args are is =
      let ρ = as_given args in
      let at = found_map (goal_in old) i.conditions.items one.0 one.1 one.2 in
      let c = goal_in old one.1 in
      let becomes = one.3 ρ (given_assignment i.params args are) (forced_at args are is).1 in
      let same : goal_in n one.1 ≡ c =
      goal_stays old n extended one.1 (found_owned trait_predicate_shape old i.conditions.items one.0 one.1 one.2 owned.conditions) in
      let instance : assigned ρ (instance_of (variables_from 0 i.params) (goal_in n one.1)) ≡ instance_of args c =
      ap (λ r. assigned ρ (instance_of (variables_from 0 i.params) r)) same
      ∙ instance_becomes i.params args are c (written.conditions one.0 c at) in (
        one.0,
        c,
        at,
        subst (λ gs. IsOneOf (instance_of args c) gs) (goals_stay old n extended goals all)
            (subst (λ r. IsOneOf r (goals_in n goals)) instance becomes),
      )

-- what becomes one of the goals did so before the interner grew
pub becomes_before : (old new : Terms) (extends : Extends old new) (b : Table) (args : GenericArgs) (condition : TraitPredicate)
    (goals : List TraitPredicate) → IsTable old b → IsOwned args_shape old args
    → rows.AreArguments old.rows (rows.args_at old.rows args) → IsOwned trait_predicate_shape old condition
    → AreOwned trait_predicate_shape old goals
    → BecomesOneOf new (substitution new b) (argument_trees new args) condition goals
    → BecomesOneOf old (substitution old b) (argument_trees old args) condition goals
becomes_before old new extends b args condition goals table own are mine all becomes ρ is solves =
    subst (λ gs. IsOneOf (assigned ρ (instance_of (argument_trees old args) (goal_in old condition))) gs) (goals_stay old new extends goals all)
    (subst (λ r. IsOneOf (assigned ρ r) (goals_in new goals))
    (ap (λ xs. instance_of xs (goal_in new condition)) (arguments_stay old new extends args own are)
    ∙ ap (instance_of (argument_trees old args)) (goal_stays old new extends condition mine))
    (becomes ρ is (subst (Solves ρ) (sym (substitution_stays old new b extends table)) solves)))

-- a resolved instance without variables that is one of the goals
pub becomes_one : (old between new : Terms) (b : Table) (args : GenericArgs) (condition instance needed : TraitPredicate)
    (goals : List TraitPredicate) (k : ℕ) → Extends old between → Extends between new → IsTable old b → AreOwned trait_predicate_shape old goals
    → goal_in between instance ≡ instance_of (argument_trees old args) (goal_in old condition)
    → tree_by trait_predicate_shape new.rows needed ≡ apply (substitution between b) (tree_by trait_predicate_shape between.rows instance)
    → IsGround (goal_in new needed) → slice_get goals k ≡ Some needed
    → BecomesOneOf old (substitution old b) (argument_trees old args) condition goals
becomes_one old between new b args condition instance needed goals k first second table all reads plain ground at ρ is solves =
    let becomes = resolved_becomes ρ (substitution between b) (tree_by trait_predicate_shape between.rows instance)
    (tree_by trait_predicate_shape new.rows needed) (instance_of (argument_trees old args) (goal_in old condition)) is
    (subst (Solves ρ) (sym (substitution_stays old between b first table)) solves) ground plain reads in
    subst (λ r. IsOneOf r (goals_in old goals)) (sym (becomes ∙ goal_stays old new (Extends-trans first second) needed
    (found_owned trait_predicate_shape old goals k needed at all)))
    (k, found_map (goal_in old) goals k needed at)
