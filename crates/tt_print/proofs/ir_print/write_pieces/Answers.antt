use Rattle.tt_print.proofs.PrintPieces.{left-all, left-piece, left-goes-on, left-smaller, left-ends}
use Rattle.tt_print.proofs.ir_print.write_pieces.Goals as goal

pub write-init : goal.write-init
write-init c = left-all c.args.cx.now.rows _ _ c.requires

pub returns-in-None : goal.returns-in-None
returns-in-None c = left-ends c.args.cx.now.rows tt _ _ _ _ c.write.invariant c.in-None.ensures.variant.1

pub write_piece-requires : goal.write_piece-requires
write_piece-requires c = left-piece c.args.cx.now.rows _ _ _ _ _ _ c.write.invariant c.in-Some.ensures.items

pub write-smaller : goal.write-smaller
write-smaller c = left-smaller c.args.cx.now.rows _ _ _ _ _ _ _ c.in-Some.ensures.items c.in_ok-write_piece-in-Some.ensures.opened

pub write-preserved : goal.write-preserved
write-preserved c =
    let turn = c.in_ok-write_piece-in-Some.ensures in
    left-goes-on c.args.cx.now.rows _ _ _ _ _ _ _ _ _ c.write.invariant c.in-Some.ensures.items turn.opened turn.kept
