use Rattle.std.proofs.Common.{arith}
use Rattle.tt_kinds.specs.Shape.{fill}
use Rattle.tt_visit.proofs.VisitSteps.{asked-skip, asked-descend, asked-broke-inside, asking-broke, root-meaning}
use Rattle.tt_visit.proofs.BeginSteps.{begun-weaker}
use Rattle.tt_visit.proofs.stored.begin_term.Goals as goal

pub returns-in-Break-clause-begun : goal.returns-in-Break-clause-begun
unfolding fill
returns-in-Break-clause-begun g c = asking-broke _ _ _ _ _ _ (root-meaning _ _ _ c.requires.handle) c.in-Break.ensures.result

pub returns-in-Continue-Skip-clause-begun : goal.returns-in-Continue-Skip-clause-begun
unfolding fill
returns-in-Continue-Skip-clause-begun g c =
    asked-skip _ _ _ _ _ (root-meaning _ _ _ c.requires.handle) (rw c.in-Continue-Skip.field-0-is at c.in-Continue-Skip.ensures.result)

pub returns-in-Continue-Descend-clause-begun : goal.returns-in-Continue-Descend-clause-begun
unfolding fill
returns-in-Continue-Descend-clause-begun g c =
    let hook = rw c.in-Continue-Descend.field-0-is at c.in-Continue-Descend.ensures.result in
    begun-weaker _ _ _ c.begin_inside.result c.begin_inside.ensures.begun
    (λ _ h. asked-descend _ _ _ _ _ _ (root-meaning _ _ _ c.requires.handle) hook h) (λ b _ h. asked-broke-inside _ _ _ _ _ _ b (root-meaning _ _ _ c.requires.handle) hook h)
    (omega arith) (omega arith)
