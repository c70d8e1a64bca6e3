use Rattle.tt_print.proofs.PrintPieces.{adds-end}
use Rattle.tt_print.proofs.ir_print.pieces.push_end.Goals as goal

pub returns : goal.returns
returns c rows = adds-end rows _ _ _ c.args.style c.args.count c.reserve.ensures.items c.push_reserved.ensures.items
