use Rattle.std.proofs.Common.{[]}
use Rattle.tt_print.proofs.PrintPieces.{left-starts, left-written}
use Rattle.tt_print.proofs.PrintSteps.{writes-then}
use Rattle.tt_print.proofs.ir_print.write_record.Goals as goal

pub write_pieces-requires : goal.write_pieces-requires
write_pieces-requires c = (left-starts c.args.cx.now.rows [] _ _ _ _ c.new-pieces.ensures.items (c.in_ok-push_parts.ensures c.args.cx.now.rows c.requires.parts)).parts

pub returns : goal.returns
returns c =
    writes-then tt _ _ _ _ _ _ c.in_ok-write_head.ensures
    (left-written c.args.cx.now.rows _ _ _ _ _ _
    (left-starts c.args.cx.now.rows _ _ _ _ _ c.new-pieces.ensures.items (c.in_ok-push_parts.ensures c.args.cx.now.rows c.requires.parts)) c.write_pieces.ensures)
