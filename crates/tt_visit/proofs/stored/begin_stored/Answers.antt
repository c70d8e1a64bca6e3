use Rattle.std.proofs.Common.{sym}
use Rattle.tt_kinds.specs.Shape.{fill}
use Rattle.tt_visit.proofs.VisitSteps.{list-seen, list-broke}
use Rattle.tt_visit.proofs.BeginSteps.{begins-list}
use Rattle.tt_visit.proofs.stored.begin_stored.Goals as goal

pub returns-else-is_term-clause-begun : goal.returns-else-is_term-clause-begun
unfolding fill
returns-else-is_term-clause-begun g c =
    let own = c.list_frame.ensures in
    let is = sym c.if-is_term.ensures in
    begins-list own.frame own.binder own.low own.light
    (λ _ h. rw own.list (list-seen _ _ is _ _ _ h)) (λ b _ h. rw own.list (list-broke _ _ is _ _ _ b h))
