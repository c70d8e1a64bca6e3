-- by the rows that come
use Rattle.tt_interner.proofs.Growth.{in_range-grows, meaning-grows}
use Rattle.tt_interner.proofs.laws.growth_keeps_trees.Goals as goal

pub returns : goal.returns
returns c = λ old new g t n h. (in_range-grows old new g t n h, meaning-grows old new g t n h)
