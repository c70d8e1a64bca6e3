-- Goals, implementations and programs stay what they are, whatever the interner builds.
use Rattle.std.proofs.Common.{◌≡◌, ℕ, zero, suc, ◌≤◌, ◌⊎◌, inl, inr, List, [], ◌∷◌, ◌++◌, length, refl, ap, sym, ◌∙◌, subst}
use Rattle.std.specs.Prelude.{Some, slice_get}
use Rattle.tt_kinds.specs.Handle.{GenericArgs}
use Rattle.tt_kinds.specs.Kinds.{args_shape}
use Rattle.tt_kinds.specs.Reading.{read}
use Rattle.tt_kinds.specs.Values.{trait_predicate_shape}
use Rattle.tt_kinds.specs.declared.predicate.TraitPredicate.{TraitPredicate}
use Rattle.tt_interner.specs.Arguments as rows
use Rattle.tt_interner.specs.Owned.{AreOwned, IsOwned, tree_by}
use Rattle.tt_interner.specs.Stored.{Extends, Terms}
use Rattle.tt_interner.proofs.Growth.{Extends-trans, fill-grows}
use Rattle.tt_interner.proofs.OwnedLaws.{found_owned, list_still_owned, owned_laws, still_owned}
use Rattle.tt_binder.specs.ArgumentLaws.{args_at-grows, arguments-still}
use Rattle.tt_binder.specs.Instance.{IsPlain}
use Rattle.solver.specs.Derivations.{AreArguments, Derives, instance_of}
use Rattle.solver.specs.Log.{AreMet, AreOwnedLines, IsOwnedReason}
use Rattle.solver.specs.Program.{IsOwnedImpl, IsProgram, argument_trees, goal_in, goals_in, impl_in, impls_in}
use Rattle.solver.specs.Written.{AreWritten, IsWritten, IsWrittenGoal}
use Rattle.solver.specs.declared.log.Line.{Line}
use Rattle.solver.specs.declared.log.Reason.{Reason}
use Rattle.solver.specs.declared.log.Reason.TheVariants.{Assumed, Implemented}
use Rattle.solver.specs.declared.program.Impl.{Impl}
use Rattle.solver.proofs.OutcomeLaws.{HoldsBelow, found_map, found_mapped, holds_all}

-- what the code's index gives where there is no goal
abbrev pub no_goal : TraitPredicate
no_goal = record { trait_ref = record { def_id = record { number = 0; of = record {} }; args = record { number = 0; of = record {} } } }

module _ (old new : Terms) (extends : Extends old new) where
  pub goal_stays : (goal : TraitPredicate) → IsOwned trait_predicate_shape old goal → goal_in new goal ≡ goal_in old goal
  goal_stays goal owned = ap (read 0) (fill-grows old.rows new.rows extends.rows (trait_predicate_shape goal) owned)

  pub goals_stay : (goals : List TraitPredicate) → AreOwned trait_predicate_shape old goals → goals_in new goals ≡ goals_in old goals
  goals_stay [] owned = refl
  goals_stay (goal ∷ goals) owned = rw (goal_stays goal owned.0, goals_stay goals owned.1) refl

  pub impl_stays : (i : Impl) → IsOwnedImpl old i → impl_in new i ≡ impl_in old i
  impl_stays i owned = rw (goal_stays i.head owned.head, goals_stay i.conditions.items owned.conditions) refl

  pub impls_stay : (impls : List Impl) → ((k : ℕ) (i : Impl) → slice_get impls k ≡ Some i → IsOwnedImpl old i)
      → impls_in new impls ≡ impls_in old impls
  impls_stay [] owned = refl
  impls_stay (i ∷ impls) owned = rw (impl_stays i (owned zero i refl), impls_stay impls (λ k. owned (suc k))) refl

  pub impl_owned : (i : Impl) → IsOwnedImpl old i → IsOwnedImpl new i
  impl_owned i owned = record {
    head = still_owned trait_predicate_shape old new i.head extends owned.head;
    conditions = list_still_owned trait_predicate_shape old new i.conditions.items extends owned.conditions;
  }

  pub program_stays : (impls : List Impl) → IsProgram old impls → IsProgram new impls
  program_stays impls is = record {
    owned = λ k i at. impl_owned i (is.owned k i at);
    written = subst AreWritten (sym (impls_stay impls is.owned)) is.written;
  }

  reason_owned : (r : Reason) → IsOwnedReason old r → IsOwnedReason new r
  reason_owned (Assumed k) owned = tt
  reason_owned (Implemented k args cs) owned = still_owned args_shape old new args extends owned

  pub lines_owned : (lines : List Line) → AreOwnedLines old lines → AreOwnedLines new lines
  lines_owned lines owned = λ k line at. record {
    goal = still_owned trait_predicate_shape old new line.goal extends (owned k line at).goal;
    reason = reason_owned line.reason (owned k line at).reason;
  }

  pub derived_stays : (impls : List Impl) (assumptions : List TraitPredicate) (goal : TraitPredicate) → IsProgram old impls
      → AreOwned trait_predicate_shape old assumptions → IsOwned trait_predicate_shape old goal
      → Derives (impls_in new impls) (goals_in new assumptions) (goal_in new goal)
      → Derives (impls_in old impls) (goals_in old assumptions) (goal_in old goal)
  derived_stays impls assumptions goal is owned mine derived =
      subst (λ i. Derives i (goals_in old assumptions) (goal_in old goal)) (impls_stay impls is.owned)
      (subst (λ a. Derives (impls_in new impls) a (goal_in old goal)) (goals_stay assumptions owned)
      (subst (λ g. Derives (impls_in new impls) (goals_in new assumptions) g) (goal_stays goal mine) derived))

  pub derived_grows : (impls : List Impl) (assumptions : List TraitPredicate) (goal : TraitPredicate) → IsProgram old impls
      → AreOwned trait_predicate_shape old assumptions → IsOwned trait_predicate_shape old goal
      → Derives (impls_in old impls) (goals_in old assumptions) (goal_in old goal)
      → Derives (impls_in new impls) (goals_in new assumptions) (goal_in new goal)
  derived_grows impls assumptions goal is owned mine derived =
      subst (λ i. Derives i (goals_in new assumptions) (goal_in new goal)) (sym (impls_stay impls is.owned))
      (subst (λ a. Derives (impls_in old impls) a (goal_in new goal)) (sym (goals_stay assumptions owned))
      (subst (λ g. Derives (impls_in old impls) (goals_in old assumptions) g) (sym (goal_stays goal mine)) derived))

  pub arguments_stay : (args : GenericArgs) → IsOwned args_shape old args → rows.AreArguments old.rows (rows.args_at old.rows args)
      → argument_trees new args ≡ argument_trees old args
  arguments_stay args owned are = arguments-still old.rows new.rows (rows.args_at old.rows args) (rows.args_at new.rows args) extends.rows
      (args_at-grows old.rows new.rows args extends.rows owned) are

  -- the goal is the instance that was made
  pub instance_is : (args : GenericArgs) (declared bound goal made value : TraitPredicate) → bound ≡ declared → made ≡ value → made ≡ goal
      → IsOwned trait_predicate_shape old goal
      → IsPlain (argument_trees old args) (tree_by trait_predicate_shape old.rows bound) (tree_by trait_predicate_shape new.rows value)
      → goal_in old goal ≡ instance_of (argument_trees old args) (goal_in old declared)
  instance_is args declared bound goal made value same is found owned plain =
      sym (goal_stays goal owned) ∙ ap (goal_in new) (sym found ∙ is) ∙ plain
      ∙ ap (λ d. instance_of (argument_trees old args) (goal_in old d)) same

  module _ (args : GenericArgs) (own : IsOwned args_shape old args) (are : rows.AreArguments old.rows (rows.args_at old.rows args)) where
    -- an instance stays one
    pub instance_stays : (declared goal : TraitPredicate) → IsOwned trait_predicate_shape old declared → IsOwned trait_predicate_shape old goal
        → goal_in new goal ≡ instance_of (argument_trees new args) (goal_in new declared)
        → goal_in old goal ≡ instance_of (argument_trees old args) (goal_in old declared)
    instance_stays declared goal mine owned is =
        sym (goal_stays goal owned) ∙ is ∙ ap (λ a. instance_of a (goal_in new declared)) (arguments_stay args own are)
        ∙ ap (instance_of (argument_trees old args)) (goal_stays declared mine)

    -- conditions that are met stay met
    pub met_stays : (conditions : List TraitPredicate) (lines : List Line) → AreOwned trait_predicate_shape old conditions
        → AreOwnedLines old lines → AreMet new conditions args lines → AreMet old conditions args lines
    met_stays conditions lines mine owned met = λ j c at.
        let m = met j c at in
        (m.0, m.1, m.2, instance_stays c m.1.goal (found_owned trait_predicate_shape old conditions j c at mine) (owned m.0 m.1 m.2).goal m.3)

    -- a goal that could be declared stays so
    pub written_stays : (goal : TraitPredicate) → IsOwned trait_predicate_shape old goal
        → ((n : ℕ) → AreArguments n (argument_trees new args) → IsWrittenGoal n (goal_in new goal))
        → (n : ℕ) → AreArguments n (argument_trees old args) → IsWrittenGoal n (goal_in old goal)
    written_stays goal owned written n some =
        subst (IsWrittenGoal n) (goal_stays goal owned)
        (written n (subst (AreArguments n) (sym (arguments_stay args own are)) some))

-- with these arguments the goal could be declared
abbrev pub IsWrittenFor : Terms → GenericArgs → TraitPredicate → Type 0
IsWrittenFor terms args goal = (n : ℕ) → AreArguments n (argument_trees terms args) → IsWrittenGoal n (goal_in terms goal)

-- an implementation whose goals could be declared could be
pub impl_written : (terms : Terms) (args : GenericArgs) (i : Impl) (m : ℕ) → AreArguments i.params (argument_trees terms args)
    → IsWrittenGoal i.params (goal_in terms i.head) → HoldsBelow (IsWrittenFor terms args) i.conditions.items m
    → length i.conditions.items ≤ m → IsWritten (impl_in terms i)
impl_written terms args i m are head below all = record {
  head = head;
  conditions = λ j r at.
      let found = found_mapped (goal_in terms) i.conditions.items j r at in
      subst (IsWrittenGoal i.params) found.2
      (holds_all (IsWrittenFor terms args) i.conditions.items m all below j found.0 found.1 i.params are);
}

-- a program without implementations
pub empty_program : (terms : Terms) → IsProgram terms []
empty_program terms = record { owned = λ k i at. absurd (cc); written = λ k i at. absurd (cc) }

-- a program with one more implementation
pub program_next : (terms : Terms) (impls : List Impl) (i : Impl) → IsProgram terms impls → IsOwnedImpl terms i → IsWritten (impl_in terms i)
    → IsProgram terms (impls ++ i ∷ [])
program_next terms impls i is owned written = record {
  owned = λ k other at. elim (old_or_pushed impls i k other at) [
    | inl old ↦ is.owned k other old
    | inr same ↦ subst (IsOwnedImpl terms) same owned
  ];
  written = λ k tree at.
      let found = found_mapped (impl_in terms) (impls ++ i ∷ []) k tree at in
      subst IsWritten found.2 (elim (old_or_pushed impls i k found.0 found.1) [
        | inl old ↦ is.written k (impl_in terms found.0) (found_map (impl_in terms) impls k found.0 old)
        | inr same ↦ subst (λ x. IsWritten (impl_in terms x)) same written
      ]);
}
  where
    old_or_pushed : (xs : List Impl) (x : Impl) (k : ℕ) (y : Impl) → slice_get (xs ++ x ∷ []) k ≡ Some y → (slice_get xs k ≡ Some y) ⊎ (x ≡ y)
    old_or_pushed [] x zero y at = inr (cc)
    old_or_pushed [] x (suc k) y at = absurd (cc)
    old_or_pushed (z ∷ xs) x zero y at = inl at
    old_or_pushed (z ∷ xs) x (suc k) y at = old_or_pushed xs x k y at

pub ruleset solver_laws = (Extends-trans, owned_laws, program_stays, lines_owned)
