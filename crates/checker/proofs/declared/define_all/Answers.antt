use Rattle.tt_interner.proofs.Growth.{Extends-trans}
use Rattle.tt_kinds.specs.Kinds.{ty_shape}
use Rattle.tt_interner.proofs.OwnedLaws.{list_still_owned}
use Rattle.checker.proofs.declared.define_all.Goals as goal

pub field_defs-requires : goal.field_defs-requires
field_defs-requires c = list_still_owned ty_shape c.args.cx.now c.loop-number.cx c.args.written.now c.loop-number.invariant c.requires

pub returns-in_err-define : goal.returns-in_err-define
returns-in_err-define c = Extends-trans c.loop-number.invariant (Extends-trans c.field_defs.ensures c.define.ensures)
