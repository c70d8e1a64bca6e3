use Rattle.tt_fold.proofs.ItemSteps.{enter_bare, enter_binder}
use Rattle.tt_fold.proofs.stack.enter.Goals as goal

pub returns-in-None : goal.returns-in-None
returns-in-None g c = enter_bare c.in-None.is c.requires.owned

pub returns-in-Some : goal.returns-in-Some
returns-in-Some g c = enter_binder c.in-Some.is c.core_enter.ensures.extends c.core_enter.ensures.owned c.core_enter.ensures.result
