use Rattle.tt_calls.proofs.ToldLaws.{AreOwnedAnswers-grows}
use Rattle.type_terms.proofs.RunLaws.{AreOwnedAnswers-append, ran-more}
use Rattle.type_terms.proofs.run.runner.answer_next.Goals as goal

pub returns-in_err-push-clause-owned : goal.returns-in_err-push-clause-owned
returns-in_err-push-clause-owned c =
    rw c.in_err-push.ensures.items (AreOwnedAnswers-grows _ _ c.answer_call-answer.ensures.extends.rows _ c.requires)

pub returns-clause-owned : goal.returns-clause-owned
returns-clause-owned c =
    rw c.in_ok-push.ensures.items
    (AreOwnedAnswers-append _ _ _ (AreOwnedAnswers-grows _ _ c.answer_call-answer.ensures.extends.rows _ c.requires) c.answer_call-answer.ensures.owned)

pub returns-clause-allowed : goal.returns-clause-allowed
returns-clause-allowed c = record {
  answer = c.answer_call-answer.result;
  added = c.in_ok-push.ensures.items;
  allowed = rw (← c.as_slice.ensures.value) c.answer_call-answer.ensures.allowed;
}

pub returns-clause-means : goal.returns-clause-means
returns-clause-means c first before extends means =
    rw c.in_ok-push.ensures.items
    (ran-more first _ _ before _ _ _ extends c.requires c.answer_call-answer.ensures.extends
    (rw (← c.as_slice.ensures.value) c.answer_call-answer.ensures.allowed) means)
