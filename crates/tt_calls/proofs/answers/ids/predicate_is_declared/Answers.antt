use Rattle.tt_calls.specs.CallForm.{predicate_kind_ids, variables_ids}
use Rattle.tt_calls.proofs.IdLaws.{both-told, first-untold}
use Rattle.tt_calls.proofs.answers.ids.predicate_is_declared.Goals as goal

pub returns-then-predicate_kind_is_declared : goal.returns-then-predicate_kind_is_declared
returns-then-predicate_kind_is_declared c =
    let call = c.args.call.now in
    both-told c.args.earlier.now (predicate_kind_ids call.kind) (variables_ids call.vars.items) _ _ c.if-predicate_kind_is_declared.true c.predicate_kind_is_declared.ensures (rw (← c.as_slice.ensures.value) c.variables_are_declared.ensures)

pub returns-else-predicate_kind_is_declared : goal.returns-else-predicate_kind_is_declared
returns-else-predicate_kind_is_declared c =
    let call = c.args.call.now in
    first-untold c.args.earlier.now (predicate_kind_ids call.kind) (variables_ids call.vars.items) _ c.if-predicate_kind_is_declared.false c.predicate_kind_is_declared.ensures
