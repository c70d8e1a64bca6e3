use Rattle.std.proofs.Common.{refl}
use Rattle.tt_kinds.specs.Kinds.{region_shape}
use Rattle.tt_kinds.specs.Shape.{fill}
use Rattle.tt_interner.specs.Rows.{meaning}
use Rattle.tt_visit.proofs.VisitSteps.{root-region}
use Rattle.tt_visit.proofs.MeetsRegionsLaws.{region-met}
use Rattle.tt_visit.proofs.meets_regions.MeetsRegionsVisitorTypeVisitor.visit_region.Goals as goal

pub returns-in-Continue-Descend-clause-result : goal.returns-in-Continue-Descend-clause-result
returns-in-Continue-Descend-clause-result c =
    let told = c.in-Continue-Descend.ensures (fill (meaning c.args.cx.now.rows) (region_shape c.args.region)) c.flags.ensures c.outer_exclusive_binder.ensures in
    (refl, region-met _ _ (root-region _ _) (rw c.in-Continue-Descend.field-0-is at told).2)
