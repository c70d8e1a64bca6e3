use Rattle.std.proofs.Common.{◌≡◌, ◌∙◌, ◌<◌, length, arith}
use Rattle.tt_visit.proofs.FrameSteps.{taken, taken-child, visiting-starts, visiting-past, visiting-breaks}
use Rattle.tt_visit.proofs.FrameSteps.{visiting-into, visiting-ends, visiting-up, visiting-binders, total-past}
use Rattle.tt_visit.proofs.FrameSteps.{total-into, total-up}
use Rattle.tt_visit.proofs.stored.+visit_frame.Goals as goal

pub visit-init : goal.visit-init
visit-init g t c = visiting-starts c.new-frames.result.items c.new-frames.ensures.items c.requires.owned c.requires.frame

pub returns-in-None-pop-clause-result : goal.returns-in-None-pop-clause-result
returns-in-None-pop-clause-result g t c =
    let some : 0 < length c.visit.frames.items → ⊥ = λ more. (let is_some = c.in-None-pop.ensures.variant.1 more in cc) in
    let empty : length c.visit.frames.items ≡ 0 = omega arith in
    visiting-ends c.visit.frames.items c.visit.invariant c.in-None.ensures.children (c.binder.ensures ∙ c.in-None.ensures.binder) c.leave.ensures.result empty

pub visit-smaller-in-Some-pop : goal.visit-smaller-in-Some-pop
visit-smaller-in-Some-pop g t c =
    total-up _ _ _ c.visit.frames.items c.pop.new.self.items c.in-Some-pop.rest c.in-None.ensures.children c.in-Some-pop.ensures.items c.resumed-frame.ensures

pub visit-preserved-in-Some-pop : goal.visit-preserved-in-Some-pop
visit-preserved-in-Some-pop g t c =
    visiting-up c.visit.frames.items c.pop.new.self.items c.in-Some-pop.rest c.visit.invariant c.in-None.ensures.children (c.binder.ensures ∙ c.in-None.ensures.binder)
    c.leave.ensures.result c.leave.ensures.owned c.in-Some-pop.ensures.items c.resumed-frame.ensures

pub begin_child-requires-clause-child : goal.begin_child-requires-clause-child
begin_child-requires-clause-child g t c =
    let e = c.in-Some.ensures in
    let k = taken c.args.cx.now.rows c.visit.frame c.in-Some.child c.next_child.new.self e.children e.first e.binder e.rest in
    taken-child k c.visit.invariant.is_frame

pub leave_all-requires-clause-frames : goal.leave_all-requires-clause-frames
leave_all-requires-clause-frames g t c = visiting-binders c.visit.frames.items c.visit.invariant

pub returns-in-Break-clause-result : goal.returns-in-Break-clause-result
returns-in-Break-clause-result g t c =
    let e = c.in-Some.ensures in
    let k = taken c.args.cx.now.rows c.visit.frame c.in-Some.child c.next_child.new.self e.children e.first e.binder e.rest in
    let means = g.V.TypeVisitor.meaning c.args.cx.now.rows in
    visiting-breaks (means c.leave-in-Break.new.visitor) (means c.leave_all.new.visitor) c.visit.invariant k c.in-Break.ensures.begun
    (rw c.binder-in-Break.ensures at c.leave-in-Break.ensures.result) c.leave_all.ensures.result

pub visit-smaller-in-Continue-None : goal.visit-smaller-in-Continue-None
visit-smaller-in-Continue-None g t c =
    let e = c.in-Some.ensures in
    let k = taken c.args.cx.now.rows c.visit.frame c.in-Some.child c.next_child.new.self e.children e.first e.binder e.rest in
    total-past _ _ _ c.in-Some.child _ k

pub visit-preserved-in-Continue-None : goal.visit-preserved-in-Continue-None
visit-preserved-in-Continue-None g t c =
    let e = c.in-Some.ensures in
    let k = taken c.args.cx.now.rows c.visit.frame c.in-Some.child c.next_child.new.self e.children e.first e.binder e.rest in
    visiting-past c.visit.invariant k c.in-Continue-None.ensures.owned (rw c.in-Continue-None.field-0-is at c.in-Continue-None.ensures.begun)

pub visit-smaller-then-push_rest : goal.visit-smaller-then-push_rest
visit-smaller-then-push_rest g t c =
    let e = c.in-Some.ensures in
    let k = taken c.args.cx.now.rows c.visit.frame c.in-Some.child c.next_child.new.self e.children e.first e.binder e.rest in
    let inside = rw c.in-Continue-Some.field-0-is at c.in-Continue-Some.ensures.begun in
    total-into _ _ _ _ c.in-Some.child c.visit.frames.items c.push_rest.new.frames.items k inside.light (c.push_rest.ensures.kept c.if-push_rest.true)

pub visit-preserved-then-push_rest : goal.visit-preserved-then-push_rest
visit-preserved-then-push_rest g t c =
    let e = c.in-Some.ensures in
    let k = taken c.args.cx.now.rows c.visit.frame c.in-Some.child c.next_child.new.self e.children e.first e.binder e.rest in
    let inside = rw c.in-Continue-Some.field-0-is at c.in-Continue-Some.ensures.begun in
    visiting-into c.visit.frames.items c.push_rest.new.frames.items c.visit.invariant k c.in-Continue-Some.ensures.owned inside (omega arith) (c.push_rest.ensures.kept c.if-push_rest.true)

pub leave_all-requires-in-Break-visit_frame-clause-frames : goal.leave_all-requires-in-Break-visit_frame-clause-frames
leave_all-requires-in-Break-visit_frame-clause-frames g t c =
    rw (c.push_rest.ensures.refused c.if-push_rest.false) (visiting-binders c.visit.frames.items c.visit.invariant)

pub returns-in-Break-visit_frame-clause-result : goal.returns-in-Break-visit_frame-clause-result
returns-in-Break-visit_frame-clause-result g t c =
    let e = c.in-Some.ensures in
    let k = taken c.args.cx.now.rows c.visit.frame c.in-Some.child c.next_child.new.self e.children e.first e.binder e.rest in
    let means = g.V.TypeVisitor.meaning c.args.cx.now.rows in
    let inside = rw c.in-Continue-Some.field-0-is at c.in-Continue-Some.ensures.begun in
    visiting-breaks (means c.leave-in-Break-visit_frame.new.visitor) (means c.leave_all-in-Break-visit_frame.new.visitor) c.visit.invariant k
    (inside.fails c.in-Break-visit_frame.b (means c.visit_frame.new.visitor) c.in-Break-visit_frame.ensures.result)
    (rw c.binder-in-Break-visit_frame.ensures at c.leave-in-Break-visit_frame.ensures.result)
    (rw (c.push_rest.ensures.refused c.if-push_rest.false) at c.leave_all-in-Break-visit_frame.ensures.result)

pub visit-smaller : goal.visit-smaller
visit-smaller g t c =
    let e = c.in-Some.ensures in
    let k = taken c.args.cx.now.rows c.visit.frame c.in-Some.child c.next_child.new.self e.children e.first e.binder e.rest in
    rw (c.push_rest.ensures.refused c.if-push_rest.false) (total-past _ _ _ c.in-Some.child c.visit.frames.items k)

pub visit-preserved : goal.visit-preserved
visit-preserved g t c =
    let e = c.in-Some.ensures in
    let k = taken c.args.cx.now.rows c.visit.frame c.in-Some.child c.next_child.new.self e.children e.first e.binder e.rest in
    let inside = rw c.in-Continue-Some.field-0-is at c.in-Continue-Some.ensures.begun in
    rw (c.push_rest.ensures.refused c.if-push_rest.false)
    (visiting-past c.visit.invariant k c.in-Continue.ensures.owned (inside.ends (g.V.TypeVisitor.meaning c.args.cx.now.rows c.visit_frame.new.visitor) c.in-Continue.ensures.result))
