use Rattle.tt_kinds.specs.Shape.{fill, fill_all}
use Rattle.tt_kinds.specs.Label.{unsafe_binder_record}
use Rattle.tt_visit.proofs.VisitSteps.{flow-weaker}
use Rattle.tt_visit.proofs.records.UnsafeBinderInnerTypeVisitable.visit_with.Goals as goal

pub returns-clause-result : goal.returns-clause-result
unfolding fill fill_all
returns-clause-result g c =
    let under = rw (c.bound_vars.ensures, c.one-parts.ensures, c.child.ensures, c.skip_binder.ensures) at c.visit_under.ensures.result in
    flow-weaker c.visit_under.result under (λ _ h. h unsafe_binder_record) (λ b h. h unsafe_binder_record)
