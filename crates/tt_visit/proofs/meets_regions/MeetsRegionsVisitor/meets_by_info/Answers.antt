use Rattle.std.proofs.Common.{◌≤◌}
use Rattle.tt_visit.specs.HasTypeFlags.{Misses}
use Rattle.tt_visit.proofs.MeetsRegionsLaws.{told-some, told-none, told-low, missed, low-enough}
use Rattle.tt_visit.proofs.meets_regions.MeetsRegionsVisitor.meets_by_info.Goals as goal

pub returns-then-intersects : goal.returns-then-intersects
returns-then-intersects c t is reaches = told-some _ _ t is (rw c.union-unbound.ensures at (c.intersects.ensures.0 c.if-intersects.true))

pub returns-then-not-intersects : goal.returns-then-not-intersects
returns-then-not-intersects c t is reaches =
    let asked = rw c.union-unbound.ensures at c.intersects.ensures in
    let unfree : Misses 0x220000 c.args.flags.bits = missed 0x220000 c.args.flags.bits c.intersects.result c.if-intersects.false asked in
    let unbound : Misses 0x40000 c.args.flags.bits =
    missed 0x40000 c.args.flags.bits c.intersects-else-intersects.result c.if-not-intersects.true c.intersects-else-intersects.ensures in
    told-none _ _ t is unfree unbound

pub returns-else-reaches_out : goal.returns-else-reaches_out
returns-else-reaches_out c t is reaches =
    let asked = rw c.union-unbound.ensures at c.intersects.ensures in
    let unfree : Misses 0x220000 c.args.flags.bits = missed 0x220000 c.args.flags.bits c.intersects.result c.if-intersects.false asked in
    let low : c.args.outer_exclusive_binder ≤ c.args.self.outer_index = low-enough _ _ c.reaches_out.result c.if-reaches_out.false c.reaches_out.ensures in
    told-low _ _ _ t is reaches unfree low
