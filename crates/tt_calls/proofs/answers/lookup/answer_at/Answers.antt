use Rattle.std.proofs.Common.{◌-◌, ◌≤◌, length, refl, arith}
use Rattle.std.proofs.lemmas.Option.{slice_get_read, slice_get_past}
use Rattle.std.proofs.lemmas.Grind.{common_steps}
use Rattle.tt_calls.proofs.LookupLaws.{found, absent, absent-id}
use Rattle.tt_calls.proofs.answers.lookup.answer_at.Goals as goal

pub returns-in-Some-clause-ok : goal.returns-in-Some-clause-ok
returns-in-Some-clause-ok c =
    found c.args.earlier.now c.args.position c.in-Some.answer.now c.if-position-eq0.false
    (slice_get_read c.args.earlier.now (length c.args.earlier.now) (c.args.position - 1) c.in-Some.answer.now refl c.in-Some.ensures.lookup.3.0 c.in-Some.ensures.lookup.1)

pub returns-in-None-clause-absent : goal.returns-in-None-clause-absent
returns-in-None-clause-absent c =
    let past : length c.args.earlier.now ≤ c.args.position - 1 = grind (arith, common_steps, c.in-None.ensures.lookup) in
    absent c.args.earlier.now c.args.position c.if-position-eq0.false (slice_get_past c.args.earlier.now (c.args.position - 1) past)

pub returns-in-None-clause-no_id : goal.returns-in-None-clause-no_id
returns-in-None-clause-no_id c =
    let past : length c.args.earlier.now ≤ c.args.position - 1 = grind (arith, common_steps, c.in-None.ensures.lookup) in
    absent-id c.args.earlier.now c.args.position c.if-position-eq0.false (slice_get_past c.args.earlier.now (c.args.position - 1) past)
