use Rattle.std.proofs.Common.{◌≡◌, ◌≤◌, length, refl, sym, subst, add-one}
use Rattle.std.specs.Prelude.{Some, slice_get}
use Rattle.std.proofs.lemmas.Option.{slice_get_read}
use Rattle.tt_kinds.specs.Values.{trait_predicate_shape}
use Rattle.tt_interner.proofs.Growth.{Extends-trans}
use Rattle.tt_interner.proofs.OwnedLaws.{list_still_owned}
use Rattle.solver.specs.Program.{goal_in, goals_in, impl_in}
use Rattle.solver.specs.Refutation.{NeedsOneOf}
use Rattle.solver.specs.declared.program.Impl.{Impl}
use Rattle.solver.proofs.OutcomeLaws.{HoldsBelow, holds_all, holds_next, found_map, is_none, succeeded}
use Rattle.solver.proofs.ProgramLaws.{impl_owned}
use Rattle.solver.proofs.RefutationLaws.{ground_stays_so, impl_still_written, needs_before, unfounded_of}
use Rattle.solver.proofs.refutation.check_goal.Goals as goal

pub check_implementation-checked-requires-clause-implementation : goal.check_implementation-checked-requires-clause-implementation
check_implementation-checked-requires-clause-implementation c =
    let x = c.in-Some.implementation.now in
    let lookup = c.in-Some.ensures.lookup in
    let read = slice_get_read c.deref.result.now (length c.deref.result.now) c.loop-number.number x refl lookup.3.0 lookup.1 in
    let there : slice_get c.args.program.now c.loop-number.number ≡ Some x = let v = c.program.view_is in let d = c.deref.ensures.value in cc in
    impl_owned c.args.cx.now c.loop-number.cx c.loop-number.invariant.extends x (c.requires.program.owned c.loop-number.number x there)

pub check_implementation-checked-requires-clause-written : goal.check_implementation-checked-requires-clause-written
check_implementation-checked-requires-clause-written c =
    let impls = c.args.program.now in
    let k = c.loop-number.number in
    let x = c.in-Some.implementation.now in
    let lookup = c.in-Some.ensures.lookup in
    let read = slice_get_read c.deref.result.now (length c.deref.result.now) k x refl lookup.3.0 lookup.1 in
    let there : slice_get impls k ≡ Some x = let v = c.program.view_is in let d = c.deref.ensures.value in cc in
    impl_still_written c.args.cx.now c.loop-number.cx c.loop-number.invariant.extends x (c.requires.program.owned k x there)
    (c.requires.program.written k (impl_in c.args.cx.now x) (found_map (impl_in c.args.cx.now) impls k x there))

pub check_implementation-checked-requires-clause-goals : goal.check_implementation-checked-requires-clause-goals
check_implementation-checked-requires-clause-goals c =
    list_still_owned trait_predicate_shape c.args.cx.now c.loop-number.cx c.args.goals.now c.loop-number.invariant.extends c.requires.goals

pub check_implementation-checked-requires-clause-ground : goal.check_implementation-checked-requires-clause-ground
check_implementation-checked-requires-clause-ground c =
    ground_stays_so c.args.cx.now c.loop-number.cx c.loop-number.invariant.extends c.args.goal c.requires.goal c.requires.ground

pub loop-number-preserved : goal.loop-number-preserved
loop-number-preserved c =
    let old = c.args.cx.now in
    let impls = c.args.program.now in
    let goals = c.args.goals.now in
    let inv = c.loop-number.invariant in
    let k = c.loop-number.number in
    let x = c.in-Some.implementation.now in
    let lookup = c.in-Some.ensures.lookup in
    let read = slice_get_read c.deref.result.now (length c.deref.result.now) k x refl lookup.3.0 lookup.1 in
    let there : slice_get impls k ≡ Some x = let v = c.program.view_is in let d = c.deref.ensures.value in cc in
    let is = succeeded c.check_implementation-checked.result c.is_err.result c.is_err.ensures.value c.if-is_err.false c.check_implementation-checked.ensures.needs in
    let before = needs_before old c.loop-number.cx inv.extends goals c.args.goal x c.requires.goals c.requires.goal (c.requires.program.owned k x there) is in
    let Holds = λ (i : Impl). NeedsOneOf (goals_in old goals) (goal_in old c.args.goal) (impl_in old i) in
    record {
      extends = Extends-trans inv.extends c.check_implementation-checked.ensures.extends;
      needs = subst (HoldsBelow Holds impls) (sym (add-one k)) (holds_next Holds impls k x inv.needs there before);
    }

pub returns-clause-unfounded : goal.returns-clause-unfounded
returns-clause-unfounded c =
    let old = c.args.cx.now in
    let impls = c.args.program.now in
    let goals = c.args.goals.now in
    let many : c.len-number-end.result ≡ length impls = let e = c.len-number-end.ensures in let v = c.program.view_is in cc in
    unfounded_of old impls c.args.assumptions.now goals c.args.goal
    (c.place_of.ensures.missing (is_none c.place_of.result c.is_some.result c.is_some.ensures c.if-is_some.false))
    (holds_all (λ i. NeedsOneOf (goals_in old goals) (goal_in old c.args.goal) (impl_in old i)) impls c.loop-number.number
    (subst (λ n. n ≤ c.loop-number.number) many c.loop-number-test.false) c.loop-number.invariant.needs)
