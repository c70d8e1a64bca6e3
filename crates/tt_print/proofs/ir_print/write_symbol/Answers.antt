use Rattle.tt_print.proofs.PrintNames.{symbol-text}
use Rattle.tt_print.proofs.PrintSteps.{writes-same}
use Rattle.tt_print.proofs.ir_print.write_symbol.Goals as goal

pub returns : goal.returns
returns c =
    writes-same _ _ _ _ _ (symbol-text c.args.cx.now.rows c.are_rows.ensures.are _ c.args.name.number c.as_str.ensures) c.write_text.ensures
