use Rattle.std.proofs.Common.{◌≡◌, length, refl, sym, subst, add-one, arith}
use Rattle.std.specs.Prelude.{Some, slice_get}
use Rattle.std.proofs.lemmas.Option.{slice_get_read}
use Rattle.tt_interner.proofs.Growth.{Extends-trans}
use Rattle.solver.specs.Overlap.{AreApart}
use Rattle.solver.specs.Program.{goal_in, impl_in}
use Rattle.solver.specs.declared.program.Impl.{Impl}
use Rattle.solver.proofs.OutcomeLaws.{HoldsBelow, found_map, holds_next}
use Rattle.solver.proofs.OverlapLaws.{apart_before, applies_before}
use Rattle.solver.proofs.ProgramLaws.{impl_owned}
use Rattle.solver.proofs.RefutationLaws.{impl_still_written}
use Rattle.solver.proofs.overlap.overlap_of.Goals as goal

pub shared_goal-requires-clause-left : goal.shared_goal-requires-clause-left
shared_goal-requires-clause-left c =
    let x = c.in-Some.earlier.now in
    let k = c.loop-first.first in
    let lookup = c.in-Some.ensures.lookup in
    let read = slice_get_read c.deref.result.now (length c.deref.result.now) k x refl lookup.3.0 lookup.1 in
    let there : slice_get c.args.program.now k ≡ Some x = let v = c.program.view_is in let d = c.deref.ensures.value in cc in
    impl_owned c.args.cx.now c.loop-first.cx c.loop-first.invariant.extends x (c.requires.program.owned k x there)

pub shared_goal-requires-clause-right : goal.shared_goal-requires-clause-right
shared_goal-requires-clause-right c =
    let x = c.args.implementation.now in
    impl_owned c.args.cx.now c.loop-first.cx c.loop-first.invariant.extends x (c.requires.program.owned c.args.second x c.requires.there)

pub shared_goal-requires-clause-left_written : goal.shared_goal-requires-clause-left_written
shared_goal-requires-clause-left_written c =
    let old = c.args.cx.now in
    let impls = c.args.program.now in
    let x = c.in-Some.earlier.now in
    let k = c.loop-first.first in
    let lookup = c.in-Some.ensures.lookup in
    let read = slice_get_read c.deref.result.now (length c.deref.result.now) k x refl lookup.3.0 lookup.1 in
    let there : slice_get impls k ≡ Some x = let v = c.program.view_is in let d = c.deref.ensures.value in cc in
    impl_still_written old c.loop-first.cx c.loop-first.invariant.extends x (c.requires.program.owned k x there)
    (c.requires.program.written k (impl_in old x) (found_map (impl_in old) impls k x there))

pub shared_goal-requires-clause-right_written : goal.shared_goal-requires-clause-right_written
shared_goal-requires-clause-right_written c =
    let old = c.args.cx.now in
    let impls = c.args.program.now in
    let x = c.args.implementation.now in
    let k = c.args.second in
    impl_still_written old c.loop-first.cx c.loop-first.invariant.extends x (c.requires.program.owned k x c.requires.there)
    (c.requires.program.written k (impl_in old x) (found_map (impl_in old) impls k x c.requires.there))

pub returns-in-Some-2-clause-overlap : goal.returns-in-Some-2-clause-overlap
returns-in-Some-2-clause-overlap c =
    let old = c.args.cx.now in
    let before = c.loop-first.cx in
    let extends = c.loop-first.invariant.extends in
    let impls = c.args.program.now in
    let x = c.in-Some.earlier.now in
    let k = c.loop-first.first in
    let l = c.args.implementation.now in
    let lookup = c.in-Some.ensures.lookup in
    let read = slice_get_read c.deref.result.now (length c.deref.result.now) k x refl lookup.3.0 lookup.1 in
    let there : slice_get impls k ≡ Some x = let v = c.program.view_is in let d = c.deref.ensures.value in cc in
    let reading = goal_in c.shared_goal.new.cx c.in-Some-2.goal in
    record {
      ordered = c.loop-first-test.true;
      earlier = (
        impl_in old x,
        found_map (impl_in old) impls k x there,
        applies_before old before extends x reading (c.requires.program.owned k x there) (rw c.in-Some-2.is at c.in_ok-goal.ensures.left),
      );
      later = (
        impl_in old l,
        found_map (impl_in old) impls c.args.second l c.requires.there,
        applies_before old before extends l reading (c.requires.program.owned c.args.second l c.requires.there)
            (rw c.in-Some-2.is at c.in_ok-goal.ensures.right),
      );
    }

pub loop-first-preserved : goal.loop-first-preserved
loop-first-preserved c =
    let old = c.args.cx.now in
    let inv = c.loop-first.invariant in
    let impls = c.args.program.now in
    let x = c.in-Some.earlier.now in
    let k = c.loop-first.first in
    let l = c.args.implementation.now in
    let lookup = c.in-Some.ensures.lookup in
    let read = slice_get_read c.deref.result.now (length c.deref.result.now) k x refl lookup.3.0 lookup.1 in
    let there : slice_get impls k ≡ Some x = let v = c.program.view_is in let d = c.deref.ensures.value in cc in
    let Holds = λ (i : Impl). AreApart (impl_in old i) (impl_in old l) in
    let apart = apart_before old c.loop-first.cx inv.extends x l (c.requires.program.owned k x there)
    (c.requires.program.owned c.args.second l c.requires.there) (c.in_ok-goal.ensures.apart c.in_default-2.is) in
    record {
      extends = Extends-trans inv.extends c.shared_goal.ensures.extends;
      apart = subst (HoldsBelow Holds impls) (sym (add-one k)) (holds_next Holds impls k x inv.apart there apart);
    }

pub returns-clause-apart : goal.returns-clause-apart
returns-clause-apart c = λ none j i less there.
    c.loop-first.invariant.apart j i (let all = c.loop-first-test.false in omega (arith, less, all)) there
