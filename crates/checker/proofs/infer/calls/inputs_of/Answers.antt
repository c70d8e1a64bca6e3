use Rattle.std.proofs.Common.{sym, subst}
use Rattle.tt_kinds.specs.Kinds.{ty_shape}
use Rattle.tt_interner.specs.Owned.{AreOwned}
use Rattle.tt_interner.proofs.OwnedLaws.{push_owned}
use Rattle.checker.proofs.infer.calls.inputs_of.Goals as goal

pub loop-index-preserved : goal.loop-index-preserved
loop-index-preserved c = subst (AreOwned ty_shape c.args.cx.now) (sym c.in_ok-push.ensures.items)
    (push_owned ty_shape c.args.cx.now c.loop-index.inputs.items c.in_ok-type_at.field-0 c.loop-index.invariant c.in_ok-type_at.ensures.owned)
