use Rattle.tt_visit.specs.Visit.{binder_skipped, enter_broke}
use Rattle.tt_visit.proofs.BeginSteps.{begins-under}
use Rattle.tt_visit.proofs.stored.begin_under.Goals as goal

pub returns-in-Break-clause-begun : goal.returns-in-Break-clause-begun
returns-in-Break-clause-begun g c m = enter_broke c.in-Break.ensures.result

pub returns-in-Continue-Skip-clause-begun : goal.returns-in-Continue-Skip-clause-begun
returns-in-Continue-Skip-clause-begun g c m = binder_skipped (rw c.in-Continue-Skip.field-0-is at c.in-Continue-Skip.ensures.result)

pub returns-in-Continue-Descend-clause-begun : goal.returns-in-Continue-Descend-clause-begun
returns-in-Continue-Descend-clause-begun g c =
    let hook = rw c.in-Continue-Descend.field-0-is at c.in-Continue-Descend.ensures.result in
    begins-under hook c.of_parts-frame.ensures c.requires.vars c.requires.parts
