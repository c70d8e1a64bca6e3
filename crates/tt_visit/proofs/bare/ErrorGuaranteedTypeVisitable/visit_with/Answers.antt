use Rattle.tt_kinds.specs.Shape.{fill, fill_all}
use Rattle.tt_visit.specs.Visit.{token_seen, token_broke}
use Rattle.tt_visit.proofs.VisitSteps.{flow-weaker}
use Rattle.tt_visit.proofs.bare.ErrorGuaranteedTypeVisitable.visit_with.Goals as goal

pub returns-clause-result : goal.returns-clause-result
unfolding fill fill_all
returns-clause-result g c = flow-weaker c.visit_error.result c.visit_error.ensures.result (λ _ h. token_seen h) (λ b h. token_broke h)
