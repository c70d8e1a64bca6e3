use Rattle.std.proofs.Common.{refl}
use Rattle.tt_kinds.specs.Shape.{fill}
use Rattle.tt_kinds.specs.declared.region_kind.RegionKind.TheVariants.{ReStatic, ReVar, ReErased, ReError}
use Rattle.tt_calls.proofs.BuildLaws.{region-shallow}
use Rattle.tt_calls.proofs.build.regions.build_region.Goals as goal

pub returns-in-ReStatic-clause-region : goal.returns-in-ReStatic-clause-region
unfolding fill
returns-in-ReStatic-clause-region c =
    rw (c.in-ReStatic.is) (λ rows. region-shallow c.args.cx.now ReStatic _ ⊥ c.new.result c.new.ensures.ok tt (λ d. d) tt refl)

pub returns-in-ReVar-clause-region : goal.returns-in-ReVar-clause-region
unfolding fill
returns-in-ReVar-clause-region c =
    rw (c.in-ReVar.is) (λ rows. region-shallow c.args.cx.now (ReVar c.in-ReVar.variable) _ ⊥ c.new-in-ReVar.result c.new-in-ReVar.ensures.ok tt (λ d. d) tt refl)

pub returns-in-ReErased-clause-region : goal.returns-in-ReErased-clause-region
unfolding fill
returns-in-ReErased-clause-region c =
    rw (c.in-ReErased.is) (λ rows. region-shallow c.args.cx.now ReErased _ ⊥ c.new-in-ReErased.result c.new-in-ReErased.ensures.ok tt (λ d. d) tt refl)

pub returns-in-ReError-clause-region : goal.returns-in-ReError-clause-region
unfolding fill
returns-in-ReError-clause-region c =
    rw (c.in-ReError.is) (λ rows. region-shallow c.args.cx.now (ReError c.in-ReError.token) _ ⊥ c.new-in-ReError.result c.new-in-ReError.ensures.ok tt (λ d. d) tt refl)
