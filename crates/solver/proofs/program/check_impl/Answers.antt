use Rattle.std.proofs.Common.{get_or, length, sym, ap, subst, add-one, ◌∙◌, ◌≤◌}
use Rattle.std.specs.Prelude.{slice_get}
use Rattle.std.proofs.lemmas.Option.{slice_get-get_or}
use Rattle.tt_kinds.specs.Values.{trait_predicate_shape}
use Rattle.tt_interner.proofs.Growth.{Extends-trans}
use Rattle.tt_interner.proofs.OwnedLaws.{found_owned, still_owned}
use Rattle.solver.proofs.ArgumentLaws.{arguments_in_range}
use Rattle.solver.proofs.OutcomeLaws.{HoldsBelow, holds_next, succeeded}
use Rattle.solver.proofs.ProgramLaws.{IsWrittenFor, no_goal, impl_written, written_stays}
use Rattle.solver.proofs.program.check_impl.Goals as goal

pub check_written-written-requires-clause-goal : goal.check_written-written-requires-clause-goal
check_written-written-requires-clause-goal c =
    let old = c.args.cx.now in
    let k = c.loop-condition.condition-index in
    let items = c.deref-condition-items.result.now in
    let condition = get_or items k no_goal in
    let at = sym (ap (λ xs. slice_get xs k) c.deref-condition-items.ensures.value) ∙ slice_get-get_or items k no_goal c.loop-condition-test.true in
    still_owned trait_predicate_shape old c.loop-condition.cx condition c.loop-condition.invariant.extends
    (found_owned trait_predicate_shape old c.args.implementation.now.conditions.items k condition at c.requires.implementation.conditions)

pub loop-condition-preserved : goal.loop-condition-preserved
loop-condition-preserved c =
    let old = c.args.cx.now in
    let args = c.args.args in
    let inv = c.loop-condition.invariant in
    let k = c.loop-condition.condition-index in
    let conditions = c.args.implementation.now.conditions.items in
    let items = c.deref-condition-items.result.now in
    let condition = get_or items k no_goal in
    let at = sym (ap (λ xs. slice_get xs k) c.deref-condition-items.ensures.value) ∙ slice_get-get_or items k no_goal c.loop-condition-test.true in
    let owned = found_owned trait_predicate_shape old conditions k condition at c.requires.implementation.conditions in
    let written = succeeded c.check_written-written.result c.is_err-in-loop-condition.result c.is_err-in-loop-condition.ensures.value
    c.if-is_err-2.false c.check_written-written.ensures.written in
    let stays = written_stays old c.loop-condition.cx inv.extends args c.requires.args
    (arguments_in_range old args c.as_slice-arguments.result.now c.as_slice-arguments.ensures) condition owned written in
    record {
      extends = Extends-trans inv.extends c.check_written-written.ensures.extends;
      written = subst (HoldsBelow (IsWrittenFor old args) conditions) (sym (add-one k))
          (holds_next (IsWrittenFor old args) conditions k condition inv.written at stays);
    }

pub returns-clause-written : goal.returns-clause-written
returns-clause-written c = λ are.
    let old = c.args.cx.now in
    let i = c.args.implementation.now in
    let head = succeeded c.check_written-head.result c.is_err.result c.is_err.ensures.value c.if-is_err.false c.check_written-head.ensures.written in
    impl_written old c.args.args i c.loop-condition.condition-index are (head i.params are) c.loop-condition.invariant.written
    (subst (λ xs. length xs ≤ c.loop-condition.condition-index) c.deref-condition-items.ensures.value c.loop-condition-test.false)
