use Rattle.std.proofs.Common.{◌≡◌, sym, subst, ◌∙◌}
use Rattle.std.specs.Prelude.{Some, slice_get}
use Rattle.tt_kinds.specs.Values.{trait_predicate_shape}
use Rattle.tt_interner.proofs.OwnedLaws.{list_still_owned}
use Rattle.unify.proofs.UnificationLaws.{table_stays}
use Rattle.solver.specs.Answers.{IsNo}
use Rattle.solver.proofs.AnswerLaws.{resolved_holds}
use Rattle.solver.proofs.ProgramLaws.{program_stays}
use Rattle.solver.proofs.SearchLaws.{continues_further, continues_grown}
use Rattle.solver.proofs.solver.no_of.Goals as goal

pub returns-in_err-resolved-clause-continues : goal.returns-in_err-resolved-clause-continues
returns-in_err-resolved-clause-continues c = continues_grown c.resolved_goal.ensures.extends c.requires.table

pub returns-in_default-clause-continues : goal.returns-in_default-clause-continues
returns-in_default-clause-continues c = continues_grown c.resolved_goal.ensures.extends c.requires.table

pub returns-then-has_infer-clause-continues : goal.returns-then-has_infer-clause-continues
returns-then-has_infer-clause-continues c = continues_grown c.resolved_goal.ensures.extends c.requires.table

pub refutation_of-requires : goal.refutation_of-requires
refutation_of-requires c =
    table_stays c.args.cx.now c.resolved_goal.new.cx c.args.search.now.bindings c.resolved_goal.ensures.extends c.requires.table

pub returns-in_err-goals-clause-continues : goal.returns-in_err-goals-clause-continues
returns-in_err-goals-clause-continues c =
    continues_further (continues_grown c.resolved_goal.ensures.extends c.requires.table) c.refutation_of.ensures

pub returns-in_default-2-clause-continues : goal.returns-in_default-2-clause-continues
returns-in_default-2-clause-continues c =
    continues_further (continues_grown c.resolved_goal.ensures.extends c.requires.table) c.refutation_of.ensures

pub returns-then-not-are_owned-clause-continues : goal.returns-then-not-are_owned-clause-continues
returns-then-not-are_owned-clause-continues c =
    continues_further (continues_grown c.resolved_goal.ensures.extends c.requires.table) c.refutation_of.ensures

pub returns-in_default-place_of-clause-continues : goal.returns-in_default-place_of-clause-continues
returns-in_default-place_of-clause-continues c =
    continues_further (continues_grown c.resolved_goal.ensures.extends c.requires.table) c.refutation_of.ensures

pub refute-requires-clause-program : goal.refute-requires-clause-program
refute-requires-clause-program c =
    program_stays c.args.cx.now c.refutation_of.new.cx
    (continues_further (continues_grown c.resolved_goal.ensures.extends c.requires.table) c.refutation_of.ensures).extends
    c.args.known.program.now c.requires.program

pub refute-requires-clause-assumptions : goal.refute-requires-clause-assumptions
refute-requires-clause-assumptions c =
    list_still_owned trait_predicate_shape c.args.cx.now c.refutation_of.new.cx c.args.known.assumptions.now
    (continues_further (continues_grown c.resolved_goal.ensures.extends c.requires.table) c.refutation_of.ensures).extends
    c.requires.assumptions

pub returns-in-Ok-clause-continues : goal.returns-in-Ok-clause-continues
returns-in-Ok-clause-continues c =
    let on = continues_further (continues_grown c.resolved_goal.ensures.extends c.requires.table) c.refutation_of.ensures in
    continues_further on (continues_grown c.refute.ensures.extends on.refined.table)

pub returns-in-Ok-clause-no : goal.returns-in-Ok-clause-no
returns-in-Ok-clause-no c = λ no.
    resolved_holds IsNo c.args.cx.now c.resolved_goal.new.cx c.refutation_of.new.cx c.args.search.now.bindings c.args.known.program.now
    c.args.known.assumptions.now c.args.goal c.in-Some.resolved c.resolved_goal.ensures.extends c.refutation_of.ensures.extends
    c.requires.program c.requires.assumptions (rw c.in-Some.is at c.in_ok-resolved.ensures.owned)
    (rw c.in-Some.is at c.in_ok-resolved.ensures.plain)
    (c.in-Ok.ensures.refuted c.in-Some-place_of._place c.in-Some.resolved
    (subst (λ xs. slice_get xs c.in-Some-place_of._place ≡ Some c.in-Some.resolved)
    (c.as_slice-2.ensures.value ∙ sym c.as_slice-3.ensures.value) c.in-Some-place_of.ensures.found))

pub returns-in-Err-Refused-clause-continues : goal.returns-in-Err-Refused-clause-continues
returns-in-Err-Refused-clause-continues c =
    let on = continues_further (continues_grown c.resolved_goal.ensures.extends c.requires.table) c.refutation_of.ensures in
    continues_further on (continues_grown c.refute.ensures.extends on.refined.table)

pub returns : goal.returns
returns c =
    let on = continues_further (continues_grown c.resolved_goal.ensures.extends c.requires.table) c.refutation_of.ensures in
    record {
      continues = continues_further on (continues_grown c.refute.ensures.extends on.refined.table);
      no = λ no. absurd no;
      unproved = λ yes. yes;
    }
