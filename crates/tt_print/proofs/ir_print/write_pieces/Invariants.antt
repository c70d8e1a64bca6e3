use Rattle.std.specs.Prelude.{string_bytes}
use Rattle.tt_print.specs.Pieces.{Left, pieces_text, pieces_work}
use Rattle.tt_print.proofs.ir_print.write_pieces.Given as goal

abbrev pub invariant-write : goal.invariant-write
invariant-write l = Left l.cx.rows (string_bytes l.initial.out) (string_bytes l.out) l.pieces.items (pieces_text l.cx.rows l.initial.pieces.items)

abbrev pub decreases-write : goal.decreases-write
decreases-write l = pieces_work l.cx.rows l.pieces.items
