-- A shift under some binders changes nothing in a tree that reaches no further than they do.
use Rattle.tt_kinds.proofs.OuterLaws.{shift_tree-low}
use Rattle.tt_kinds.proofs.laws.shift_keeps_low_trees.Goals as goal

pub returns : goal.returns
returns c = shift_tree-low
