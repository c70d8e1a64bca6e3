use Rattle.std.proofs.Common.{◌≡◌, ◌+◌, ◌-◌, arith}
use Rattle.tt_kinds.specs.Shape.{fill}
use Rattle.tt_interner.specs.Rows.{size}
use Rattle.tt_interner.specs.Children.{children_at}
use Rattle.tt_visit.proofs.VisitSteps.{parts-child}
use Rattle.tt_print.proofs.PrintPieces.{adds-no-item, adds-item, adds-list}
use Rattle.tt_print.proofs.ir_print.pieces.push_list.Goals as goal

pub items-init : goal.items-init
items-init c =
    record {
      within = (let len = c.list_len-count.ensures.len in omega arith);
      adds = adds-no-item c.args.cx.now.rows _ _ _ _ _ c.list_len-count.ensures.len (c.in_ok-push_end.ensures c.args.cx.now.rows);
    }

pub items-preserved : goal.items-preserved
items-preserved c =
    let own = c.list_len-count.ensures in
    let list = children_at c.args.cx.now.rows c.args.list in
    let next : c.items.index ≡ c.items.index - 1 + 1 = omega arith in
    let part = parts-child (size c.args.cx.now.rows) list _ _ c.list_child-child.ensures own.parts in
    record {
      within = omega arith;
      adds = adds-item c.args.cx.now.rows _ c.args.list.table list (c.items.index - 1) _ _ _ _ _ _ next c.list_child-child.ensures own.fit own.len c.items.invariant.adds
          (c.in_ok-push_child.ensures c.args.cx.now.rows part);
    }

pub returns : goal.returns
unfolding fill
returns c =
    let own = c.list_len-count.ensures in
    let list = children_at c.args.cx.now.rows c.args.list in
    adds-list c.args.cx.now.rows c.args.style _ c.args.list.table list _ _ _ _ _ c.items-test.false c.items_style-items.ensures own.means own.len own.fit c.items.invariant.adds
