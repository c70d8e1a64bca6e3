-- what is joined so far and the rest of the list make what the whole list has
use Rattle.std.proofs.Common.{drop}
use Rattle.tt_kinds.specs.Shape.{item_shapes, fill_all}
use Rattle.tt_interner.specs.Rows.{meaning}
use Rattle.tt_interner.specs.Tables.{AreJoined}
use Rattle.tt_interner.proofs.flag_computation.items_info.Given as goal

abbrev pub invariant-loop-item : goal.invariant-loop-item
invariant-loop-item g l = AreJoined l.all (fill_all (meaning l.cx.rows) (item_shapes g.T.Flags.flags_shape (drop l.item-index l.items))) (fill_all (meaning l.cx.rows) (item_shapes g.T.Flags.flags_shape l.items))
