-- From the log of a search to the answer.
use Rattle.std.proofs.Common.{◌≡◌, List, ap, sym, ◌∙◌, subst}
use Rattle.tt_kinds.specs.Reading.{read}
use Rattle.tt_kinds.specs.Tree.{Place, Tree}
use Rattle.tt_kinds.specs.Values.{trait_predicate_shape}
use Rattle.tt_kinds.specs.declared.predicate.TraitPredicate.{TraitPredicate}
use Rattle.tt_interner.specs.Owned.{AreOwned, IsOwned, tree_by}
use Rattle.tt_interner.specs.Stored.{Extends, Terms}
use Rattle.tt_interner.proofs.Growth.{Extends-trans, fill-grows}
use Rattle.unify.specs.Bindings.{IsTable, Table, substitution}
use Rattle.unify.specs.Substitution.{apply}
use Rattle.unify.proofs.UnificationLaws.{substitution_stays}
use Rattle.solver.specs.Derivations.{Derives, Implementation}
use Rattle.solver.specs.Program.{IsProgram, goal_in, goals_in, impls_in}
use Rattle.solver.specs.Search.{goal_under}
use Rattle.solver.specs.declared.program.Impl.{Impl}
use Rattle.solver.proofs.ProgramLaws.{goals_stay, impls_stay}

-- `Holds` says of implementations and assumptions that a goal is derived from them, or that it isn't
module _ (Holds : List Implementation → List (Tree Place) → Tree Place → Type 0) where
  -- what holds of a program and assumptions did so before the interner grew
  pub holds_before : (old new : Terms) (impls : List Impl) (assumptions : List TraitPredicate) (goal : Tree Place) → Extends old new
      → IsProgram old impls → AreOwned trait_predicate_shape old assumptions → Holds (impls_in new impls) (goals_in new assumptions) goal
      → Holds (impls_in old impls) (goals_in old assumptions) goal
  holds_before old new impls assumptions goal extends is owned holds =
      subst (λ i. Holds i (goals_in old assumptions) goal) (impls_stay old new extends impls is.owned)
      (subst (λ a. Holds (impls_in new impls) a goal) (goals_stay old new extends assumptions owned) holds)

  -- what holds of the resolved goal holds of the goal under the bindings
  pub resolved_holds : (old between new : Terms) (x : Table) (impls : List Impl) (assumptions : List TraitPredicate) (goal resolved : TraitPredicate)
      → Extends old between → Extends between new → IsProgram old impls → AreOwned trait_predicate_shape old assumptions
      → IsOwned trait_predicate_shape between resolved
      → tree_by trait_predicate_shape between.rows resolved ≡ apply (substitution old x) (tree_by trait_predicate_shape old.rows goal)
      → Holds (impls_in new impls) (goals_in new assumptions) (goal_in new resolved)
      → Holds (impls_in old impls) (goals_in old assumptions) (goal_under old x old goal)
  resolved_holds old between new x impls assumptions goal resolved first second is owned mine plain holds =
      let same : goal_in new resolved ≡ goal_under old x old goal =
      ap (read 0) (fill-grows between.rows new.rows second.rows (trait_predicate_shape resolved) mine ∙ plain) in
      subst (Holds (impls_in old impls) (goals_in old assumptions)) same
      (holds_before old new impls assumptions (goal_in new resolved) (Extends-trans first second) is owned holds)

  -- and what holds of the goal under the bindings did so before the interner grew
  pub goal_held : (old new : Terms) (x : Table) (impls : List Impl) (assumptions : List TraitPredicate) (goal : TraitPredicate)
      → Extends old new → IsTable old x → IsProgram old impls → AreOwned trait_predicate_shape old assumptions
      → IsOwned trait_predicate_shape old goal → Holds (impls_in new impls) (goals_in new assumptions) (goal_under new x new goal)
      → Holds (impls_in old impls) (goals_in old assumptions) (goal_under old x old goal)
  goal_held old new x impls assumptions goal extends table is owned mine holds =
      let same : goal_under new x new goal ≡ goal_under old x old goal =
      ap (λ t. read 0 (apply (substitution new x) t)) (fill-grows old.rows new.rows extends.rows (trait_predicate_shape goal) mine)
      ∙ ap (λ σ. read 0 (apply σ (tree_by trait_predicate_shape old.rows goal))) (substitution_stays old new x extends table) in
      subst (Holds (impls_in old impls) (goals_in old assumptions)) same
      (holds_before old new impls assumptions (goal_under new x new goal) extends is owned holds)

-- a derivation of the goal under the bindings of a search is one of the goal as it was before
pub answer_derives : (old between new : Terms) (x : Table) (impls : List Impl) (assumptions : List TraitPredicate) (goal : TraitPredicate)
    → Extends old between → Extends between new → IsTable between x → IsProgram old impls → AreOwned trait_predicate_shape old assumptions
    → IsOwned trait_predicate_shape old goal
    → Derives (impls_in between impls) (goals_in between assumptions) (goal_under between x between goal)
    → Derives (impls_in old impls) (goals_in old assumptions) (goal_under new x old goal)
answer_derives old between new x impls assumptions goal first second table is owned mine derived =
    let same : goal_under between x between goal ≡ goal_under new x old goal =
    ap (λ t. read 0 (apply (substitution between x) t)) (fill-grows old.rows between.rows first.rows (trait_predicate_shape goal) mine)
    ∙ ap (λ σ. read 0 (apply σ (tree_by trait_predicate_shape old.rows goal))) (sym (substitution_stays between new x second table)) in
    subst (Derives (impls_in old impls) (goals_in old assumptions)) same
    (holds_before Derives old between impls assumptions (goal_under between x between goal) first is owned derived)
