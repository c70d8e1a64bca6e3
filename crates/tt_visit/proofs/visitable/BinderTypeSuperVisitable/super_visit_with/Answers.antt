use Rattle.tt_kinds.specs.Shape.{fill}
use Rattle.tt_visit.specs.Visit.{value_seen, value_broke}
use Rattle.tt_visit.proofs.VisitSteps.{flow-weaker}
use Rattle.tt_visit.proofs.visitable.BinderTypeSuperVisitable.super_visit_with.Goals as goal

pub returns-clause-result : goal.returns-clause-result
unfolding fill
returns-clause-result g c =
    flow-weaker c.visit_with.result (rw (c.skip_binder.ensures, c.as_ref.ensures.value) at c.visit_with.ensures.result) (λ _ h. value_seen h) (λ b h. value_broke h)
