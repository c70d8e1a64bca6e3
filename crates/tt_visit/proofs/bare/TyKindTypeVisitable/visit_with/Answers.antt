use Rattle.tt_visit.proofs.VisitSteps.{flow-weaker}
use Rattle.tt_kinds.proofs.BareLaws.{ty-parts}
use Rattle.tt_visit.proofs.BareLaws.{ty-seen, ty-broke}
use Rattle.tt_visit.proofs.bare.TyKindTypeVisitable.visit_with.Goals as goal

pub visit_kind-requires-clause-kind : goal.visit_kind-requires-clause-kind
visit_kind-requires-clause-kind g c = ty-parts _ _ c.requires.value

pub returns-clause-result : goal.returns-clause-result
returns-clause-result g c =
    flow-weaker c.visit_kind.result c.visit_kind.ensures.result (λ _ h. ty-seen _ _ _ _ _ h) (λ b h. ty-broke _ _ _ _ _ b h)
