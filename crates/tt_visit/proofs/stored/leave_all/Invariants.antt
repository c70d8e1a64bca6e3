use Rattle.std.proofs.Common.{length}
use Rattle.tt_interner.specs.Rows.{size}
use Rattle.tt_visit.specs.Frames.{AreBinders, StackLeaves, inward}
use Rattle.tt_visit.proofs.stored.leave_all.Given as goal

abbrev pub invariant-leave : goal.invariant-leave
invariant-leave g l =
    g.V.TypeVisitor.owned l.cx.rows l.visitor
    × AreBinders (size l.cx.rows) (inward l.frames.items)
    × ((m : g.V.TypeVisitor.Meaning) → StackLeaves g.V.TypeVisitor.hooks l.cx.rows (g.V.TypeVisitor.meaning l.cx.rows l.visitor) (inward l.frames.items) m
    → StackLeaves g.V.TypeVisitor.hooks l.cx.rows (g.V.TypeVisitor.meaning l.cx.rows l.initial.visitor) (inward l.initial.frames.items) m)

abbrev pub decreases-leave : goal.decreases-leave
decreases-leave g l = length l.frames.items
