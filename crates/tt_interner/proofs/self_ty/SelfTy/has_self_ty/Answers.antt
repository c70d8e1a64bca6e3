-- by the row of the arguments
use Rattle.tt_interner.proofs.AliasLaws.{self_ty_found, self_ty_absent}
use Rattle.tt_interner.proofs.self_ty.SelfTy.has_self_ty.Goals as goal

pub returns-then-owns : goal.returns-then-owns
returns-then-owns g c = rw (← c.args-args.ensures) (self_ty_found c.args.cx.now.rows c.args-args.result c.as_slice.result.now c.as_slice.ensures.row c.first_type.result c.first_type.ensures c.is_some.result c.is_some.ensures)

pub returns-else-owns : goal.returns-else-owns
returns-else-owns g c = rw (← c.args-args.ensures) (self_ty_absent c.args.cx.now.rows c.args-args.result c.owns.result c.owns.ensures c.if-owns.false)
