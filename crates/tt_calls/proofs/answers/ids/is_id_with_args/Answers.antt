use Rattle.tt_calls.specs.CallForm.{args_ids}
use Rattle.tt_calls.specs.Build.{wanted_id}
use Rattle.tt_calls.proofs.IdLaws.{both-told, first-untold}
use Rattle.tt_calls.proofs.answers.ids.is_id_with_args.Goals as goal

pub returns-then-is_id : goal.returns-then-is_id
returns-then-is_id c =
    both-told c.args.earlier.now (wanted_id c.args.sort c.args.position) (args_ids c.args.args.now) _ _ c.if-is_id.true c.is_id.ensures c.args_are_declared.ensures

pub returns-else-is_id : goal.returns-else-is_id
returns-else-is_id c =
    first-untold c.args.earlier.now (wanted_id c.args.sort c.args.position) (args_ids c.args.args.now) _ c.if-is_id.false c.is_id.ensures
