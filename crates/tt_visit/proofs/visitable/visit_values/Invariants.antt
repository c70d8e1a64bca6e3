use Rattle.std.proofs.Common.{take}
use Rattle.tt_kinds.specs.Shape.{fill_all, item_shapes}
use Rattle.tt_interner.specs.Rows.{meaning}
use Rattle.tt_visit.specs.Visit.{GoesOverAll}
use Rattle.tt_visit.proofs.visitable.visit_values.Given as goal

abbrev pub invariant-loop-index : goal.invariant-loop-index
invariant-loop-index g l =
    g.V.TypeVisitor.owned l.cx.rows l.visitor
    × GoesOverAll g.V.TypeVisitor.hooks
    (g.V.TypeVisitor.meaning l.cx.rows l.initial.visitor)
    (fill_all (meaning l.cx.rows) (item_shapes g.T.TypeVisitable.shape (take l.index l.values)))
    (g.V.TypeVisitor.meaning l.cx.rows l.visitor)
