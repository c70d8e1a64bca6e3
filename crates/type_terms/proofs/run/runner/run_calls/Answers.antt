use Rattle.std.proofs.Common.{◌<◌, length, take, arith}
use Rattle.std.proofs.lemmas.List.{take_more}
use Rattle.tt_interner.proofs.Growth.{Extends-trans}
use Rattle.type_terms.proofs.RunLaws.{ran-next}
use Rattle.type_terms.proofs.run.runner.run_calls.Goals as goal

pub returns-in_err-answer_next-clause-extends : goal.returns-in_err-answer_next-clause-extends
returns-in_err-answer_next-clause-extends c = Extends-trans c.loop-call.invariant.extends c.answer_next.ensures.extends

pub loop-call-preserved : goal.loop-call-preserved
loop-call-preserved c =
    let inside : c.loop-call.call-index < length c.args.calls.now = omega arith in
    rw (take_more c.args.calls.now c.loop-call.call-index c.call-item.result inside, ← c.call-item.is)
    (ran-next c.args.cx.now _ _ (take c.loop-call.call-index c.args.calls.now) _ _ _ c.loop-call.invariant c.in_ok-answer_next.ensures.extends
    c.in_ok-answer_next.ensures.owned c.in_ok-answer_next.ensures.allowed c.in_ok-answer_next.ensures.means)
