use Rattle.std.proofs.Common.{refl}
use Rattle.unify.specs.Resolver.{put, entered}
use Rattle.unify.proofs.ResolverSteps.{keeps_unflagged}
use Rattle.canonical.proofs.numbers.RenumbererTypeReplacer.replace_ty.Goals as goal

pub returns-then-not-has_infer_types-clause-result : goal.returns-then-not-has_infer_types-clause-result
returns-then-not-has_infer_types-clause-result c =
    (tt, (keeps_unflagged _ _ _ c.has_infer_types.ensures c.if-not-has_infer_types.true, refl))

pub returns-in-Some-clause-result : goal.returns-in-Some-clause-result
returns-in-Some-clause-result c = (c.in-Some.ensures.owned, (put c.in-Some.ensures.is, refl))

pub returns-in-None-clause-result : goal.returns-in-None-clause-result
returns-in-None-clause-result c = (tt, (entered c.in-None.ensures.is, refl))
