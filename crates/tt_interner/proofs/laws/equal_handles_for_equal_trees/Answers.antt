-- handles in range have different trees
use Rattle.std.proofs.Common.{ap}
use Rattle.tt_interner.specs.Rows.{meaning}
use Rattle.tt_interner.proofs.Trees.{distinct}
use Rattle.tt_interner.proofs.laws.equal_handles_for_equal_trees.Goals as goal

pub returns : goal.returns
returns c = λ rows are t n m p q. ((distinct rows are).numbers t t n m p q, ap (meaning rows t))
