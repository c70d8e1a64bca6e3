use Rattle.tt_calls.specs.CallForm.{any_id, name_ids}
use Rattle.tt_calls.proofs.IdLaws.{both-told, first-untold}
use Rattle.tt_calls.proofs.answers.ids.region_is_declared.Goals as goal

pub returns-then-is_id : goal.returns-then-is_id
returns-then-is_id c =
    rw c.in-ReLateParam.is
    (both-told c.args.earlier.now (any_id c.in-ReLateParam.scope) (name_ids c.in-ReLateParam.name) _ _ c.if-is_id.true c.is_id.ensures c.region_name_is_declared.ensures)

pub returns-else-is_id : goal.returns-else-is_id
returns-else-is_id c =
    rw c.in-ReLateParam.is (first-untold c.args.earlier.now (any_id c.in-ReLateParam.scope) (name_ids c.in-ReLateParam.name) _ c.if-is_id.false c.is_id.ensures)
