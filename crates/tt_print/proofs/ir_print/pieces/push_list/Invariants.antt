use Rattle.std.proofs.Common.{◌≤◌, ◌++◌, suc, length, drop}
use Rattle.tt_kinds.specs.Shape.{fill_all}
use Rattle.tt_kinds.specs.Kinds.{children_shapes}
use Rattle.tt_interner.specs.Rows.{meaning}
use Rattle.tt_interner.specs.Children.{children_at}
use Rattle.tt_print.specs.Text.{closing, names, texts}
use Rattle.tt_print.specs.Pieces.{AddsPieces, forest_pieces}
use Rattle.tt_print.proofs.ir_print.pieces.push_list.Given as goal

abbrev pub invariant-items : goal.invariant-items
invariant-items l = record {
  within : l.index ≤ length (children_at l.cx.rows l.list);
  adds : AddsPieces l.cx.rows l.fn.pieces.items l.pieces.items
      (texts (names l.cx.rows) l.items l.index (fill_all (meaning l.cx.rows) (children_shapes (drop l.index (children_at l.cx.rows l.list))))
      ++ closing (names l.cx.rows) l.items l.count)
      (suc (forest_pieces (fill_all (meaning l.cx.rows) (children_shapes (drop l.index (children_at l.cx.rows l.list))))));
}

abbrev pub decreases-items : goal.decreases-items
decreases-items l = l.index
