use Rattle.tt_calls.specs.CallForm.{existential_kind_ids, variables_ids}
use Rattle.tt_calls.proofs.IdLaws.{both-told, first-untold}
use Rattle.tt_calls.proofs.answers.ids.existential_is_declared.Goals as goal

pub returns-then-existential_kind_is_declared : goal.returns-then-existential_kind_is_declared
returns-then-existential_kind_is_declared c =
    let call = c.args.call.now in
    both-told c.args.earlier.now (existential_kind_ids call.kind) (variables_ids call.vars.items) _ _ c.if-existential_kind_is_declared.true c.existential_kind_is_declared.ensures (rw (← c.as_slice.ensures.value) c.variables_are_declared.ensures)

pub returns-else-existential_kind_is_declared : goal.returns-else-existential_kind_is_declared
returns-else-existential_kind_is_declared c =
    let call = c.args.call.now in
    first-untold c.args.earlier.now (existential_kind_ids call.kind) (variables_ids call.vars.items) _ c.if-existential_kind_is_declared.false c.existential_kind_is_declared.ensures
