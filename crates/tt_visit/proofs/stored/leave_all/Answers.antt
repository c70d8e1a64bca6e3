use Rattle.tt_interner.specs.Rows.{size}
use Rattle.tt_visit.proofs.FrameSteps.{binders-next, leaves-next}
use Rattle.tt_visit.proofs.stored.leave_all.Goals as goal

pub leave-requires-clause-binder : goal.leave-requires-clause-binder
leave-requires-clause-binder g c =
    rw c.binder.ensures (binders-next (size c.args.cx.now.rows) c.leave.frames.items c.pop.new.self.items c.in-Some.rest c.leave.invariant.1 c.in-Some.ensures.items).0

pub leave-preserved : goal.leave-preserved
leave-preserved g c = (
  c.leave-in-Some.ensures.owned,
  (binders-next (size c.args.cx.now.rows) c.leave.frames.items c.pop.new.self.items c.in-Some.rest c.leave.invariant.1 c.in-Some.ensures.items).1,
  λ m p. c.leave.invariant.2 m (leaves-next g.V.TypeVisitor.hooks c.args.cx.now.rows (g.V.TypeVisitor.meaning c.args.cx.now.rows c.leave.visitor) (g.V.TypeVisitor.meaning c.args.cx.now.rows c.leave-in-Some.new.visitor) m c.leave.frames.items c.pop.new.self.items c.in-Some.rest c.in-Some.ensures.items (rw c.binder.ensures at c.leave-in-Some.ensures.result) p),
)
