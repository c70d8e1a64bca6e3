use Rattle.std.proofs.Common.{length, refl, sym, subst, add-one, take}
use Rattle.std.proofs.lemmas.Option.{slice_get_read}
use Rattle.tt_kinds.specs.Values.{trait_predicate_shape}
use Rattle.tt_interner.proofs.Growth.{Extends-trans}
use Rattle.tt_interner.proofs.OwnedLaws.{list_still_owned}
use Rattle.solver.specs.Log.{AreDerived}
use Rattle.solver.proofs.LogLaws.{all_derived, derived_next, first_owned, found_of_first}
use Rattle.solver.proofs.OutcomeLaws.{succeeded}
use Rattle.solver.proofs.ProgramLaws.{derived_grows, derived_stays, lines_owned, program_stays}
use Rattle.solver.proofs.verifier.verify.Goals as goal

pub check_line-checked-requires-clause-program : goal.check_line-checked-requires-clause-program
check_line-checked-requires-clause-program c =
    program_stays c.args.cx.now c.loop-number.cx c.loop-number.invariant.extends c.args.program.now c.requires.program

pub check_line-checked-requires-clause-assumptions : goal.check_line-checked-requires-clause-assumptions
check_line-checked-requires-clause-assumptions c =
    list_still_owned trait_predicate_shape c.args.cx.now c.loop-number.cx c.args.assumptions.now c.loop-number.invariant.extends c.requires.assumptions

pub check_line-checked-requires-clause-earlier : goal.check_line-checked-requires-clause-earlier
check_line-checked-requires-clause-earlier c =
    let lines = c.args.lines.now in
    lines_owned c.args.cx.now c.loop-number.cx c.loop-number.invariant.extends (take c.loop-number.number lines)
    (first_owned c.args.cx.now lines c.loop-number.number c.requires.lines)

pub check_line-checked-requires-clause-derived : goal.check_line-checked-requires-clause-derived
check_line-checked-requires-clause-derived c = λ k line at.
    let old = c.args.cx.now in
    let lines = c.args.lines.now in
    let inv = c.loop-number.invariant in
    let owned = c.requires.lines k line (found_of_first c.loop-number.number lines k line at) in
    derived_grows old c.loop-number.cx inv.extends c.args.program.now c.args.assumptions.now line.goal c.requires.program c.requires.assumptions
    owned.goal (inv.derived k line at)

pub check_line-checked-requires-clause-goal : goal.check_line-checked-requires-clause-goal
check_line-checked-requires-clause-goal c =
    let lines = c.args.lines.now in
    let n = c.loop-number.number in
    let line = c.index-lines-number.result in
    let there = slice_get_read lines (length lines) n line refl c.loop-number-test.true c.index-lines-number.is in
    (lines_owned c.args.cx.now c.loop-number.cx c.loop-number.invariant.extends lines c.requires.lines n line there).goal

pub check_line-checked-requires-clause-reason : goal.check_line-checked-requires-clause-reason
check_line-checked-requires-clause-reason c =
    let lines = c.args.lines.now in
    let n = c.loop-number.number in
    let line = c.index-lines-number.result in
    let there = slice_get_read lines (length lines) n line refl c.loop-number-test.true c.index-lines-number.is in
    (lines_owned c.args.cx.now c.loop-number.cx c.loop-number.invariant.extends lines c.requires.lines n line there).reason

pub loop-number-preserved : goal.loop-number-preserved
loop-number-preserved c =
    let old = c.args.cx.now in
    let impls = c.args.program.now in
    let assumptions = c.args.assumptions.now in
    let lines = c.args.lines.now in
    let inv = c.loop-number.invariant in
    let n = c.loop-number.number in
    let line = c.index-lines-number.result in
    let there = slice_get_read lines (length lines) n line refl c.loop-number-test.true c.index-lines-number.is in
    let derived = succeeded c.check_line-checked.result c.is_err.result c.is_err.ensures.value c.if-is_err.false c.check_line-checked.ensures.derived in
    let stays = derived_stays old c.loop-number.cx inv.extends impls assumptions line.goal c.requires.program c.requires.assumptions
    (c.requires.lines n line there).goal derived in
    record {
      extends = Extends-trans inv.extends c.check_line-checked.ensures.extends;
      derived = subst (λ m. AreDerived old impls assumptions (take m lines)) (sym (add-one n)) (derived_next old impls assumptions lines n line there inv.derived stays);
    }

pub returns-clause-derived : goal.returns-clause-derived
returns-clause-derived c =
    all_derived c.args.cx.now c.args.program.now c.args.assumptions.now c.args.lines.now c.loop-number.number c.loop-number-test.false
    c.loop-number.invariant.derived
