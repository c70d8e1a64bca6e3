use Rattle.tt_interner.proofs.Growth.{Extends-trans}
use Rattle.checker.proofs.infer.equality.equate.Goals as goal

pub returns-in_err-cause-in-Err-clause-extends : goal.returns-in_err-cause-in-Err-clause-extends
returns-in_err-cause-in-Err-clause-extends c = Extends-trans c.unify.ensures.extends (Extends-trans c.unify_common.ensures.extends c.mismatch.ensures.extends)

pub returns-in_ok-cause-in-Err-clause-extends : goal.returns-in_ok-cause-in-Err-clause-extends
returns-in_ok-cause-in-Err-clause-extends c = Extends-trans c.unify.ensures.extends (Extends-trans c.unify_common.ensures.extends c.mismatch.ensures.extends)
