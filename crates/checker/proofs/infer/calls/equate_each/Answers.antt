use Rattle.tt_kinds.specs.Kinds.{ty_shape}
use Rattle.tt_interner.proofs.OwnedLaws.{list_still_owned}
use Rattle.checker.proofs.ScopeLaws.{scope_stays}
use Rattle.checker.proofs.infer.calls.equate_each.Goals as goal

pub operand-requires : goal.operand-requires
operand-requires c = scope_stays c.args.cx.now c.loop-index.cx _ c.loop-index.invariant.extends c.requires.scope

pub type_at-requires : goal.type_at-requires
type_at-requires c = list_still_owned ty_shape c.args.cx.now c.loop-index.cx c.args.expected.now c.loop-index.invariant.extends c.requires.expected
