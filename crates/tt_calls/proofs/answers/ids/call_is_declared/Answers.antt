use Rattle.tt_calls.proofs.answers.ids.call_is_declared.Goals as goal

pub returns : goal.returns
returns c = c.ids_are_declared.ensures.tells
