-- the items so far are the children so far
use Rattle.std.proofs.Common.{◌≡◌, take}
use Rattle.std.specs.Prelude.{map}
use Rattle.tt_interner.proofs.children.put_items.Given as goal

abbrev pub invariant-loop-i : goal.invariant-loop-i
invariant-loop-i g l = map g.T.ListItem.as_child (take l.i l.places) ≡ take l.i l.children
