use Rattle.tt_kinds.specs.Kinds.{ty_shape}
use Rattle.tt_interner.proofs.OwnedLaws.{found_owned}
use Rattle.checker.proofs.lookup.type_at.Goals as goal

pub returns-clause-owned : goal.returns-clause-owned
returns-clause-owned c = found_owned ty_shape c.args.cx.now c.args.types.now c.args.number c.in_ok-ty.ty c.in_ok-ty.ensures c.requires
