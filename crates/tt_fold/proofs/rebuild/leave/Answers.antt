use Rattle.tt_fold.proofs.ItemSteps.{leave_bare, leave_binder}
use Rattle.tt_fold.proofs.rebuild.leave.Goals as goal

pub returns-in-None : goal.returns-in-None
returns-in-None g c = leave_bare c.in-None.is c.requires.owned

pub returns-in-Some : goal.returns-in-Some
returns-in-Some g c = leave_binder c.in-Some.is c.core_leave.ensures.extends c.core_leave.ensures.owned c.core_leave.ensures.result
