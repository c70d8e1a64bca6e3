use Rattle.std.proofs.Common.{get_or, refl, sym, subst, add-one}
use Rattle.std.proofs.lemmas.Option.{slice_get-get_or}
use Rattle.tt_kinds.specs.Values.{trait_predicate_shape}
use Rattle.tt_kinds.specs.declared.predicate.TraitPredicate.{TraitPredicate}
use Rattle.tt_interner.proofs.Growth.{Extends-trans}
use Rattle.tt_interner.proofs.OwnedLaws.{found_owned, list_still_owned, still_owned}
use Rattle.solver.specs.Program.{goal_in, goals_in, impls_in}
use Rattle.solver.specs.Refutation.{IsUnfounded}
use Rattle.solver.proofs.OutcomeLaws.{HoldsBelow, holds_all, holds_next, succeeded}
use Rattle.solver.proofs.ProgramLaws.{no_goal, program_stays}
use Rattle.solver.proofs.RefutationLaws.{all_refuted, ground_stays_so, unfounded_before}
use Rattle.solver.proofs.refutation.refute.Goals as goal

pub check_goal-checked-requires-clause-program : goal.check_goal-checked-requires-clause-program
check_goal-checked-requires-clause-program c =
    program_stays c.args.cx.now c.loop-index.cx c.loop-index.invariant.extends c.args.program.now c.requires.program

pub check_goal-checked-requires-clause-assumptions : goal.check_goal-checked-requires-clause-assumptions
check_goal-checked-requires-clause-assumptions c =
    list_still_owned trait_predicate_shape c.args.cx.now c.loop-index.cx c.args.assumptions.now c.loop-index.invariant.extends c.requires.assumptions

pub check_goal-checked-requires-clause-goals : goal.check_goal-checked-requires-clause-goals
check_goal-checked-requires-clause-goals c =
    list_still_owned trait_predicate_shape c.args.cx.now c.loop-index.cx c.args.goals.now c.loop-index.invariant.extends c.requires.goals

pub check_goal-checked-requires-clause-goal : goal.check_goal-checked-requires-clause-goal
check_goal-checked-requires-clause-goal c =
    let goals = c.args.goals.now in
    let i = c.loop-index.index in
    let x = get_or goals i no_goal in
    let there = slice_get-get_or goals i no_goal c.loop-index-test.true in
    still_owned trait_predicate_shape c.args.cx.now c.loop-index.cx x c.loop-index.invariant.extends
    (found_owned trait_predicate_shape c.args.cx.now goals i x there c.requires.goals)

pub check_goal-checked-requires-clause-ground : goal.check_goal-checked-requires-clause-ground
check_goal-checked-requires-clause-ground c =
    let goals = c.args.goals.now in
    let i = c.loop-index.index in
    let x = get_or goals i no_goal in
    let there = slice_get-get_or goals i no_goal c.loop-index-test.true in
    ground_stays_so c.args.cx.now c.loop-index.cx c.loop-index.invariant.extends x
    (found_owned trait_predicate_shape c.args.cx.now goals i x there c.requires.goals) (c.if-not-are_ground-2.ensures refl i x there)

pub loop-index-preserved : goal.loop-index-preserved
loop-index-preserved c =
    let old = c.args.cx.now in
    let impls = c.args.program.now in
    let assumptions = c.args.assumptions.now in
    let goals = c.args.goals.now in
    let inv = c.loop-index.invariant in
    let i = c.loop-index.index in
    let x = get_or goals i no_goal in
    let there = slice_get-get_or goals i no_goal c.loop-index-test.true in
    let is = succeeded c.check_goal-checked.result c.is_err.result c.is_err.ensures.value c.if-is_err.false c.check_goal-checked.ensures.unfounded in
    let before = unfounded_before old c.loop-index.cx inv.extends impls assumptions goals x c.requires.program c.requires.assumptions
    c.requires.goals (found_owned trait_predicate_shape old goals i x there c.requires.goals) is in
    let Holds = λ (goal : TraitPredicate). IsUnfounded (impls_in old impls) (goals_in old assumptions) (goals_in old goals) (goal_in old goal) in
    record {
      extends = Extends-trans inv.extends c.check_goal-checked.ensures.extends;
      unfounded = subst (HoldsBelow Holds goals) (sym (add-one i)) (holds_next Holds goals i x inv.unfounded there before);
    }

pub returns-clause-refuted : goal.returns-clause-refuted
returns-clause-refuted c =
    let old = c.args.cx.now in
    let impls = c.args.program.now in
    let assumptions = c.args.assumptions.now in
    let goals = c.args.goals.now in
    all_refuted old impls assumptions goals (c.if-not-are_ground.ensures refl) (c.if-not-are_ground-2.ensures refl)
    (holds_all (λ goal. IsUnfounded (impls_in old impls) (goals_in old assumptions) (goals_in old goals) (goal_in old goal)) goals
    c.loop-index.index c.loop-index-test.false c.loop-index.invariant.unfounded)
