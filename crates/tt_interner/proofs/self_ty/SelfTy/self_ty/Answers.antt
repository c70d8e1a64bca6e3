-- the type is one of the arguments, which are the interner's
use Rattle.std.proofs.Common.{sym, ◌∙◌}
use Rattle.tt_interner.proofs.AliasLaws.{first_owned}
use Rattle.tt_interner.proofs.self_ty.SelfTy.self_ty.Goals as goal

pub returns-clause-in_range : goal.returns-clause-in_range
returns-clause-in_range g c = first_owned c.args.cx.now c.as_slice.result.now c.in-Some.ty (sym c.first_type.ensures ∙ c.in-Some.is) c.as_slice.ensures.parts.1
