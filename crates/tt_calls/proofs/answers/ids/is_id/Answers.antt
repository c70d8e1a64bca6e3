use Rattle.tt_calls.proofs.IdLaws.{sort-told, any-told}
use Rattle.tt_calls.proofs.answers.ids.is_id.Goals as goal

pub returns-in-Some : goal.returns-in-Some
returns-in-Some c =
    let found = c.declared_at in
    rw (c.in-Some.is, c.is_ok.ensures.value) (sort-told c.args.earlier.now c.args.position c.in-Some.sort found.result found.ensures.ok found.ensures.absent)

pub returns-in-None : goal.returns-in-None
returns-in-None c = rw (c.in-None.is, c.is_some.ensures) (any-told c.args.earlier.now c.args.position c.id_at.result c.id_at.ensures)
