use Rattle.std.proofs.Common.{subst}
use Rattle.tt_interner.specs.Rows.{size}
use Rattle.tt_kinds.specs.Kinds.{child_shapes}
use Rattle.tt_kinds.specs.Shape.{AreParts}
use Rattle.canonical.proofs.SearchSteps.{pushes_nothing, pushes_row}
use Rattle.canonical.proofs.search.push_child.Goals as goal

pub returns-in_ok-push-in-Stored : goal.returns-in_ok-push-in-Stored
returns-in_ok-push-in-Stored c =
    let own = subst (λ x. AreParts (size c.args.cx.now.rows) (child_shapes x)) c.in-Stored.is c.requires in
    rw (c.in_ok-push-in-Stored.ensures.items, c.in-Stored.is)
    (pushes_row c.args.cx.now c.args.pending.now.items c.in-Stored.handle own.0)

pub returns-in_default : goal.returns-in_default
returns-in_default c = pushes_nothing c.args.cx.now c.args.pending.now.items c.args.child c.in_default.not-Stored
