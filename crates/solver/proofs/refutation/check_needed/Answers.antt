use Rattle.std.proofs.Common.{get_or}
use Rattle.std.proofs.lemmas.Option.{slice_get-get_or}
use Rattle.tt_kinds.specs.Values.{trait_predicate_shape}
use Rattle.tt_interner.proofs.OwnedLaws.{found_owned, list_still_owned, still_owned}
use Rattle.unify.proofs.UnificationLaws.{table_stays}
use Rattle.solver.proofs.ArgumentLaws.{arguments_in_range}
use Rattle.solver.proofs.ProgramLaws.{no_goal}
use Rattle.solver.proofs.RefutationLaws.{becomes_before}
use Rattle.solver.proofs.refutation.check_needed.Goals as goal

pub is_needed-requires-clause-table : goal.is_needed-requires-clause-table
is_needed-requires-clause-table c = table_stays c.args.cx.now c.loop-index.cx c.args.bindings.now c.loop-index.invariant c.requires.table

pub is_needed-requires-clause-condition : goal.is_needed-requires-clause-condition
is_needed-requires-clause-condition c =
    let conditions = c.args.conditions.now in
    let i = c.loop-index.index in
    let x = get_or conditions i no_goal in
    let there = slice_get-get_or conditions i no_goal c.loop-index-test.true in
    still_owned trait_predicate_shape c.args.cx.now c.loop-index.cx x c.loop-index.invariant
    (found_owned trait_predicate_shape c.args.cx.now conditions i x there c.requires.conditions)

pub is_needed-requires-clause-goals : goal.is_needed-requires-clause-goals
is_needed-requires-clause-goals c =
    list_still_owned trait_predicate_shape c.args.cx.now c.loop-index.cx c.args.goals.now c.loop-index.invariant c.requires.goals

pub returns-then-branch-clause-needed : goal.returns-then-branch-clause-needed
returns-then-branch-clause-needed c =
    let old = c.args.cx.now in
    let conditions = c.args.conditions.now in
    let i = c.loop-index.index in
    let x = get_or conditions i no_goal in
    let there = slice_get-get_or conditions i no_goal c.loop-index-test.true in (
      i,
      x,
      there,
      becomes_before old c.loop-index.cx c.loop-index.invariant c.args.bindings.now c.args.args x c.args.goals.now c.requires.table
          c.requires.args (arguments_in_range old c.args.args c.as_slice-arguments.result.now c.as_slice-arguments.ensures)
          (found_owned trait_predicate_shape old conditions i x there c.requires.conditions) c.requires.goals
          (c.in_ok-is_needed.ensures.needed c.if-branch.true),
    )
