use Rattle.tt_interner.proofs.Growth.{Extends-trans}
use Rattle.tt_kinds.specs.Kinds.{ty_shape}
use Rattle.tt_interner.proofs.OwnedLaws.{list_still_owned}
use Rattle.checker.proofs.declared.field_defs.Goals as goal

pub type_at-requires : goal.type_at-requires
type_at-requires c = list_still_owned ty_shape c.args.cx.now c.loop-field.cx c.args.written.now c.loop-field.invariant c.requires

pub returns-in_err-name : goal.returns-in_err-name
returns-in_err-name c = Extends-trans c.loop-field.invariant c.symbol_of.ensures.extends
