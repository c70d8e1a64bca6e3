-- both steps leave what was there
use Rattle.tt_interner.proofs.Growth.{Extends-trans}
use Rattle.tt_interner.proofs.StoreSteps.{Builds-extends}
use Rattle.tt_interner.proofs.interner.Interner.mk_param.Goals as goal

pub returns-clause-extends : goal.returns-clause-extends
returns-clause-extends c = Extends-trans (Builds-extends c.symbol.ensures) (Builds-extends c.mk_ty.ensures)
