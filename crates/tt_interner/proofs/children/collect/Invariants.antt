-- the items so far are the children so far
use Rattle.std.proofs.Common.{◌≡◌, take}
use Rattle.std.specs.Prelude.{map}
use Rattle.tt_interner.proofs.children.collect.Given as goal

abbrev pub invariant-loop-child : goal.invariant-loop-child
invariant-loop-child g l = map g.T.ListItem.as_child l.items.items ≡ take l.child-index l.children
