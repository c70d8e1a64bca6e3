-- handles in range have different trees
use Rattle.std.proofs.Common.{ap}
use Rattle.tt_interner.specs.Rows.{meaning}
use Rattle.tt_interner.proofs.Trees.{distinct}
use Rattle.tt_interner.proofs.interner.Interner.are_interned.Goals as goal

pub returns : goal.returns
returns c = λ t n m p q. ((distinct _ c.are_rows.ensures.are).numbers t t n m p q, ap (meaning c.args.self.now.rows t))
