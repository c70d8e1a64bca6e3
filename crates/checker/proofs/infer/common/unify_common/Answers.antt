use Rattle.tt_interner.proofs.Growth.{Extends-trans}
use Rattle.checker.proofs.infer.common.unify_common.Goals as goal

pub returns-in_err-pair-clause-extends : goal.returns-in_err-pair-clause-extends
returns-in_err-pair-clause-extends c = Extends-trans c.loop.invariant.extends (Extends-trans c.pairs_of.ensures.extends c.first_different.ensures.extends)
