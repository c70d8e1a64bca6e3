use Rattle.tt_visit.specs.Frames.{children_height, frame_children, inward}
use Rattle.tt_visit.proofs.FrameSteps.{Visiting, total}
use Rattle.tt_visit.proofs.stored.+visit_frame.Given as goal

abbrev pub decreases-visit_frame : goal.decreases-visit_frame
decreases-visit_frame g l = children_height l.cx.now.rows (frame_children l.cx.now.rows l.whole)

abbrev pub invariant-visit : goal.invariant-visit
invariant-visit g l =
    Visiting g.V.TypeVisitor.owned g.V.TypeVisitor.meaning g.V.TypeVisitor.hooks l.cx.rows l.initial.visitor l.fn.whole l.visitor l.frame (inward l.frames.items)

abbrev pub decreases-visit : goal.decreases-visit
decreases-visit g l = total l.cx.rows l.frame l.frames.items
