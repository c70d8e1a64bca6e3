use Rattle.std.proofs.Common.{Ok, [], refl, arith}
use Rattle.tt_kinds.specs.Shape.{fill_all}
use Rattle.tt_print.proofs.PrintPieces.{adds-nothing, opens-added, opens-then, opens-written, opens-as}
use Rattle.tt_print.proofs.ir_print.write_piece.Goals as goal

pub returns-in-Absent : goal.returns-in-Absent
unfolding fill_all
returns-in-Absent c =
    let rows = c.args.cx.now.rows in
    let written = c.in_ok-write_place.ensures in
    rw c.in-Absent.is (opens-then rows tt (Ok tt) _ _ _ _ _ _ [] 0 written (opens-added rows (Ok tt) _ _ _ _ _ (adds-nothing rows _)))

pub returns-in-Region : goal.returns-in-Region
unfolding fill_all
returns-in-Region c =
    let rows = c.args.cx.now.rows in
    let written = c.in_ok-write_place.ensures in
    rw c.in-Region.is
    (opens-as rows _ _ _ _ _ _ _ 0 _ refl (omega arith) (opens-then rows tt _ _ _ _ _ _ _ _ _ written (opens-written rows _ _ _ _ _ (c.write_region.ensures c.args.piece.now.style))))

pub returns-in-Stored : goal.returns-in-Stored
unfolding fill_all
returns-in-Stored c =
    let written = c.in_ok-write_place.ensures in
    rw c.in-Stored.is (opens-then c.args.cx.now.rows tt _ _ _ _ _ _ _ _ _ written c.write_row.ensures)
