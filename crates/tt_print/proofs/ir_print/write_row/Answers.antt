use Rattle.tt_kinds.specs.Shape.{fill}
use Rattle.tt_print.proofs.PrintPieces.{opens-added}
use Rattle.tt_print.proofs.ir_print.write_row.Goals as goal

pub returns-then-has_items : goal.returns-then-has_items
unfolding fill
returns-then-has_items c = opens-added c.args.cx.now.rows _ _ _ _ _ _ c.push_list.ensures

pub returns-else-has_items : goal.returns-else-has_items
unfolding fill
returns-else-has_items c = rw (← c.node_kind-kind.ensures.means) at (c.write_kind.ensures c.args.style)
