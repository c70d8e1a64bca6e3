use Rattle.tt_kinds.specs.Shape.{fill}
use Rattle.tt_visit.specs.Visit.{binder_skipped, binder_seen, enter_broke, under_broke}
use Rattle.tt_visit.proofs.VisitSteps.{flow-weaker}
use Rattle.tt_visit.proofs.visitable.BinderTypeVisitable.visit_with.Goals as goal

pub returns-in-Break-clause-result : goal.returns-in-Break-clause-result
unfolding fill
returns-in-Break-clause-result g c = enter_broke (rw c.bound_vars.ensures at c.in-Break.ensures.result)

pub returns-in-Continue-Skip-clause-result : goal.returns-in-Continue-Skip-clause-result
unfolding fill
returns-in-Continue-Skip-clause-result g c = binder_skipped (rw (c.in-Continue-Skip.field-0-is, c.bound_vars.ensures) at c.in-Continue-Skip.ensures.result)

pub returns-in-Continue-Descend-clause-result : goal.returns-in-Continue-Descend-clause-result
unfolding fill
returns-in-Continue-Descend-clause-result g c =
    let hook = rw (c.in-Continue-Descend.field-0-is, c.bound_vars.ensures) at c.in-Continue-Descend.ensures.result in
    let left = rw c.bound_vars-in-Continue-Descend.ensures at c.leave_binder.ensures.result in
    flow-weaker c.super_visit_with-outcome.result c.super_visit_with-outcome.ensures.result (λ _ h. binder_seen hook h left) (λ b h. under_broke hook h left)
