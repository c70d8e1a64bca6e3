use Rattle.tt_calls.specs.CallForm.{one, a_term}
use Rattle.tt_calls.specs.Told.{told_all, HasFullTable}
use Rattle.tt_kinds.specs.Shape.{stored}
use Rattle.tt_calls.proofs.PartLaws.{part-passed}
use Rattle.tt_calls.proofs.LookupLaws.{part-at, nothing-at, other-at}
use Rattle.std.proofs.Common.{refl}
use Rattle.tt_calls.proofs.answers.lookup.handle_at.Goals as goal

pub returns-in_err-answer-clause-part : goal.returns-in_err-answer-clause-part
returns-in_err-answer-clause-part g c = λ terms o.
    part-passed terms (told_all terms.rows c.args.earlier.now) (one (a_term g.T.TermHandle.table c.args.position)) (λ handle. stored g.T.TermHandle.table (g.T.TermHandle.number handle))
    c.from_residual.result c.in_err-answer.field-0.0 c.from_residual.ensures.1
    (nothing-at (HasFullTable terms) terms.rows c.args.earlier.now c.args.position g.T.TermHandle.table c.in_err-answer.field-0.0 c.in_err-answer.ensures.cause c.in_err-answer.ensures.absent)

pub returns-in-Some-clause-part : goal.returns-in-Some-clause-part
returns-in-Some-clause-part g c = λ terms o. record {
  ok = part-at terms c.args.earlier.now c.args.position c.in_ok-answer.answer.now g.T.TermHandle.table (g.T.TermHandle.number c.in-Some.handle) c.in_ok-answer.ensures.ok c.in-Some.ensures o;
  err = tt;
}

pub returns-in-None-clause-part : goal.returns-in-None-clause-part
returns-in-None-clause-part g c = λ terms o. record {
  ok = tt;
  err = other-at (HasFullTable terms) terms.rows c.args.earlier.now c.args.position c.in_ok-answer.answer.now g.T.TermHandle.table _ refl c.in_ok-answer.ensures.ok c.in-None.ensures;
}
