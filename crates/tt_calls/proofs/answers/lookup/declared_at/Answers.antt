use Rattle.std.proofs.Common.{◌≡◌, rules}
use Rattle.tt_calls.specs.declared.answer.Answer.TheVariants as answer
use Rattle.tt_calls.specs.Build.{HasNoId}
use Rattle.tt_calls.proofs.ResultLaws.{passed}
use Rattle.tt_calls.proofs.LookupLaws.{id-found, no-id-absent, no-id-other}
use Rattle.tt_calls.proofs.answers.lookup.declared_at.Goals as goal

pub returns-in_err-answer-clause-absent : goal.returns-in_err-answer-clause-absent
returns-in_err-answer-clause-absent c =
    passed c.from_residual.result c.in_err-answer.field-0.0 (λ x. HasNoId c.args.earlier.now c.args.position c.args.sort) c.from_residual.ensures.1
    (no-id-absent c.args.earlier.now c.args.position c.args.sort c.in_err-answer.ensures.no_id)

pub returns-then-eq-clause-ok : goal.returns-then-eq-clause-ok
returns-then-eq-clause-ok c =
    let is : c.in_ok-answer.answer.now ≡ answer.Id c.args.sort c.in-Id.id = search rules in
    id-found c.args.earlier.now c.args.position c.in_ok-answer.answer.now c.args.sort c.in-Id.id c.in_ok-answer.ensures.ok is

pub returns-else-eq-clause-absent : goal.returns-else-eq-clause-absent
returns-else-eq-clause-absent c =
    no-id-other c.args.earlier.now c.args.position c.in_ok-answer.answer.now c.args.sort c.in_ok-answer.ensures.ok (λ id is. search rules)

pub returns-in_default-clause-absent : goal.returns-in_default-clause-absent
returns-in_default-clause-absent c =
    no-id-other c.args.earlier.now c.args.position c.in_ok-answer.answer.now c.args.sort c.in_ok-answer.ensures.ok (c.in_default.not-Id c.args.sort)
