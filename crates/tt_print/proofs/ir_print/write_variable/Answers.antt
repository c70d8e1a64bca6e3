use Rattle.tt_kinds.specs.Bound.{var_kind}
use Rattle.tt_interner.specs.Rows.{meaning}
use Rattle.tt_print.specs.Text.{names}
use Rattle.tt_print.proofs.PrintSteps.{writes-then, writes-same}
use Rattle.tt_print.proofs.PrintVariables.{variable-written}
use Rattle.tt_print.proofs.ir_print.write_variable.Goals as goal

pub returns : goal.returns
returns c =
    let rows = c.args.cx.now.rows in
    writes-same _ _ _ _ _
    (variable-written (names rows) (meaning rows) c.args.place (var_kind c.args.kind.now) _ _ c.variable_spelling-spelling.ensures c.variable_title-title.ensures)
    (writes-then tt _ _ _ _ _ _ c.in_ok-write_head.ensures c.write_head-2.ensures)
