use Rattle.tt_interner.specs.Children.{children_at}
use Rattle.tt_visit.proofs.RestLaws.{item-next}
use Rattle.tt_visit.proofs.frame.Remaining.child.Goals as goal

pub returns-in-Items : goal.returns-in-Items
returns-in-Items c =
    rw c.in-Items.is (item-next (children_at c.args.cx.now.rows c.in-Items.list) c.in-Items.index c.list_child.result c.list_child.ensures)
