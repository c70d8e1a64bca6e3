use Rattle.tt_kinds.specs.Kinds.{child_shapes}
use Rattle.tt_interner.specs.Rows.{size, meaning}
use Rattle.tt_interner.proofs.InfoLaws.{AreParts-append}
use Rattle.tt_print.proofs.PrintPieces.{adds-parts}
use Rattle.tt_print.proofs.ir_print.pieces.push_parts.Goals as goal

pub returns : goal.returns
returns c rows h =
    let both = AreParts-append (size rows) (child_shapes c.args.parts.now.first) (child_shapes c.args.parts.now.second) h in
    adds-parts rows c.args.style _ _ _ _ _ c.args.parts.now _ _ _ (c.part_count.ensures (meaning rows)) (c.child_count-before.ensures.count (meaning rows)) (c.is_absent-no_second.ensures (meaning rows))
    (c.in_ok-push_end.ensures rows) (c.in_ok-push_child.ensures rows both.1) (c.push_child-2.ensures rows both.0)
