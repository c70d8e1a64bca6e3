use Rattle.std.proofs.lemmas.Result.{err_from_is_err_and}
use Rattle.tt_print.specs.declared.ir_print.layout.Style.TheVariants as style
use Rattle.tt_print.proofs.PrintPieces.{left-begun, left-written}
use Rattle.tt_print.proofs.ir_print.write_stored.Goals as goal

pub write_pieces-requires : goal.write_pieces-requires
write_pieces-requires c =
    let begun = c.in_ok-write_kind.ensures style.Joined in
    (left-begun c.args.cx.now.rows _ _ _ _ _ _ c.new-rest.ensures.items begun.opened begun.kept).parts

pub returns-in_err-write_kind : goal.returns-in_err-write_kind
returns-in_err-write_kind c =
    let p = err_from_is_err_and c.from_residual.result c.from_residual.ensures.1 in
    record { written = rw p.1 tt; kept = (c.write_kind.ensures style.Joined).kept }

pub returns : goal.returns
returns c =
    let begun = c.in_ok-write_kind.ensures style.Joined in
    left-written c.args.cx.now.rows _ _ _ _ _ _ (left-begun c.args.cx.now.rows _ _ _ _ _ _ c.new-rest.ensures.items begun.opened begun.kept) c.write_pieces.ensures
