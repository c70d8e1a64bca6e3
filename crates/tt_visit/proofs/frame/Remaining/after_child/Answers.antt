use Rattle.std.proofs.Common.{arith, ◌∙◌}
use Rattle.tt_interner.specs.Children.{children_at}
use Rattle.tt_visit.proofs.RestLaws.{items-rest}
use Rattle.tt_visit.proofs.frame.Remaining.after_child.Goals as goal

pub overflow_add-index : goal.overflow_add-index
overflow_add-index c = let within = rw c.in-Items.is at c.requires in omega arith

pub returns-in-Items-clause-children : goal.returns-in-Items-clause-children
returns-in-Items-clause-children c rows is =
    let left = rw c.in-Items.is at is in
    rw c.in-Items.is (c.of_items.ensures.children rows left.0 ∙ items-rest (children_at rows c.in-Items.list) c.in-Items.index)
