use Rattle.tt_calls.proofs.LookupLaws.{id-found}
use Rattle.tt_calls.proofs.IdLaws.{no-id-at}
use Rattle.tt_calls.proofs.answers.ids.id_at.Goals as goal

pub returns-in-Id : goal.returns-in-Id
returns-in-Id c = id-found c.args.earlier.now c.args.position c.in-Ok.answer.now c.in-Id.sort c.in-Id.id c.in-Ok.ensures.ok c.in-Id.is

pub returns-in_default-answer : goal.returns-in_default-answer
returns-in_default-answer c = no-id-at c.args.earlier.now c.args.position c.in-Ok.answer.now c.in-Ok.ensures.ok c.in_default-answer.not-Id
