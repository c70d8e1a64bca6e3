use Rattle.tt_visit.proofs.VisitSteps.{flow-weaker}
use Rattle.tt_kinds.proofs.BareLaws.{const-parts}
use Rattle.tt_visit.proofs.BareLaws.{const-seen, const-broke}
use Rattle.tt_visit.proofs.bare.ConstKindTypeVisitable.visit_with.Goals as goal

pub visit_kind-requires-clause-kind : goal.visit_kind-requires-clause-kind
visit_kind-requires-clause-kind g c = const-parts _ _ c.requires.value

pub returns-clause-result : goal.returns-clause-result
returns-clause-result g c =
    flow-weaker c.visit_kind.result c.visit_kind.ensures.result (λ _ h. const-seen _ _ _ _ _ h) (λ b h. const-broke _ _ _ _ _ b h)
