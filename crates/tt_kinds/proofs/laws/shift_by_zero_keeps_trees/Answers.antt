-- A shift by 0 changes nothing.
use Rattle.tt_kinds.proofs.OuterLaws.{shift_tree-zero}
use Rattle.tt_kinds.proofs.laws.shift_by_zero_keeps_trees.Goals as goal

pub returns : goal.returns
returns c = shift_tree-zero
