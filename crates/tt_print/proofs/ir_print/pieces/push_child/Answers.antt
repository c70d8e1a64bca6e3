use Rattle.std.proofs.Common.{◌∙◌, sym}
use Rattle.tt_interner.specs.Rows.{meaning}
use Rattle.tt_print.proofs.PrintPieces.{adds-child, adds-absent}
use Rattle.tt_print.proofs.ir_print.pieces.push_child.Goals as goal

pub returns-then-is_absent : goal.returns-then-is_absent
returns-then-is_absent c rows h =
    adds-absent rows _ c.args.style c.args.child.now _ (sym (c.is_absent.ensures (meaning rows)) ∙ c.if-is_absent.true)

pub returns : goal.returns
returns c rows h =
    adds-child rows _ _ _ c.args.style c.args.child.now c.args.count c.args.last (sym (c.is_absent.ensures (meaning rows)) ∙ c.if-is_absent.false) c.reserve.ensures.items
    c.push_reserved.ensures.items h
