use Rattle.std.proofs.Common.{get_or, length, refl, sym, subst, add-one}
use Rattle.std.proofs.lemmas.Option.{slice_get_read, slice_get-get_or}
use Rattle.tt_kinds.specs.Values.{trait_predicate_shape}
use Rattle.tt_interner.proofs.Growth.{Extends-trans}
use Rattle.tt_interner.proofs.OwnedLaws.{found_owned, still_owned}
use Rattle.solver.specs.Log.{IsMet}
use Rattle.solver.proofs.ArgumentLaws.{arguments_in_range}
use Rattle.solver.proofs.OutcomeLaws.{HoldsBelow, holds_all, holds_next, succeeded}
use Rattle.solver.proofs.ProgramLaws.{instance_stays, no_goal}
use Rattle.solver.proofs.verifier.check_conditions.Goals as goal

pub check_instance-met-requires-clause-declared : goal.check_instance-met-requires-clause-declared
check_instance-met-requires-clause-declared c =
    let old = c.args.cx.now in
    let conditions = c.args.conditions.now in
    let i = c.loop-index.index in
    let condition = get_or conditions i no_goal in
    let at = slice_get-get_or conditions i no_goal c.loop-index-test.true in
    still_owned trait_predicate_shape old c.loop-index.cx condition c.loop-index.invariant.extends
    (found_owned trait_predicate_shape old conditions i condition at c.requires.conditions)

pub check_instance-met-requires-clause-goal : goal.check_instance-met-requires-clause-goal
check_instance-met-requires-clause-goal c =
    let old = c.args.cx.now in
    let lines = c.args.lines.now in
    let line = c.in-Some.line.now in
    let lookup = c.in-Some.ensures.lookup in
    let there = slice_get_read lines (length lines) _ line refl lookup.3.0 lookup.1 in
    still_owned trait_predicate_shape old c.loop-index.cx line.goal c.loop-index.invariant.extends (c.requires.lines _ line there).goal

pub loop-index-preserved : goal.loop-index-preserved
loop-index-preserved c =
    let old = c.args.cx.now in
    let args = c.args.args in
    let inv = c.loop-index.invariant in
    let i = c.loop-index.index in
    let conditions = c.args.conditions.now in
    let lines = c.args.lines.now in
    let line = c.in-Some.line.now in
    let lookup = c.in-Some.ensures.lookup in
    let there = slice_get_read lines (length lines) _ line refl lookup.3.0 lookup.1 in
    let condition = get_or conditions i no_goal in
    let at = slice_get-get_or conditions i no_goal c.loop-index-test.true in
    let is = succeeded c.check_instance-met.result c.is_err.result c.is_err.ensures.value c.if-is_err.false c.check_instance-met.ensures.is in
    let stays = instance_stays old c.loop-index.cx inv.extends args c.requires.args
    (arguments_in_range old args c.as_slice-arguments.result.now c.as_slice-arguments.ensures) condition line.goal
    (found_owned trait_predicate_shape old conditions i condition at c.requires.conditions) (c.requires.lines _ line there).goal is in
    record {
      extends = Extends-trans inv.extends c.check_instance-met.ensures.extends;
      met = subst (HoldsBelow (IsMet old args lines) conditions) (sym (add-one i))
          (holds_next (IsMet old args lines) conditions i condition inv.met at (_, line, there, stays));
    }

pub returns-clause-met : goal.returns-clause-met
returns-clause-met c =
    holds_all (IsMet c.args.cx.now c.args.args c.args.lines.now) c.args.conditions.now c.loop-index.index c.loop-index-test.false
    c.loop-index.invariant.met
