use Rattle.std.proofs.Common.{sym, subst}
use Rattle.tt_interner.specs.Stored.{Terms}
use Rattle.tt_interner.specs.Rows.{size}
use Rattle.tt_kinds.specs.Kinds.{child_shapes}
use Rattle.tt_kinds.specs.Shape.{AreParts}
use Rattle.unify.specs.Variables.{PushesChild}
use Rattle.unify.proofs.VariableSteps.{pushes_nothing, pushes_row}
use Rattle.unify.proofs.variables.push_child.Goals as goal

pub returns-in_ok-push-in-Stored : goal.returns-in_ok-push-in-Stored
returns-in_ok-push-in-Stored c =
    let own = subst (λ x. AreParts (size c.args.cx.now.rows) (child_shapes x)) c.in-Stored.is c.requires.child in
    rw (c.in_ok-push-in-Stored.ensures.items, c.in-Stored.is) (pushes_row c.args.cx.now c.args.pending.now.items c.in-Stored.handle c.requires.pending own.0)

pub returns-in_default : goal.returns-in_default
returns-in_default c = pushes_nothing c.args.cx.now c.args.pending.now.items c.args.child c.requires.pending c.in_default.not-Stored
