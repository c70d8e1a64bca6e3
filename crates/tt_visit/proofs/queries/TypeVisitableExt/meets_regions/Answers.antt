use Rattle.std.proofs.Common.{◌≡◌, [], not, ap, sym, ◌∙◌}
use Rattle.tt_kinds.specs.Met.{met}
use Rattle.tt_kinds.specs.Scan.{scan}
use Rattle.tt_kinds.specs.Shape.{fill}
use Rattle.tt_interner.specs.Rows.{meaning}
use Rattle.tt_visit.specs.HasTypeFlags.{Misses}
use Rattle.tt_visit.proofs.MeetsRegionsLaws.{goes-passes, breaks-meets, met-some, missed}
use Rattle.tt_visit.proofs.Found.{none-found, one-found}
use Rattle.tt_visit.proofs.queries.TypeVisitableExt.meets_regions.Goals as goal

pub returns-in-Break : goal.returns-in-Break
returns-in-Break g c = let meets = breaks-meets _ _ _ _ c.in-Break.ensures.result in one-found _ (rw c.new-visitor.ensures at meets)

pub returns-then-has_type_flags : goal.returns-then-has_type_flags
returns-then-has_type_flags g c =
    let asked = rw c.union-unbound.ensures at c.has_type_flags.ensures in
    (λ yes. met-some 0 (fill (meaning c.args.cx.now.rows) (g.Self.TypeVisitable.shape c.args.self.now)) (asked.0 yes), λ met. c.if-has_type_flags.true)

pub returns-else-has_type_flags : goal.returns-else-has_type_flags
returns-else-has_type_flags g c =
    let t = fill (meaning c.args.cx.now.rows) (g.Self.TypeVisitable.shape c.args.self.now) in
    let passes = goes-passes _ _ _ c.in-Continue.ensures.result in
    let asked = rw c.union-unbound.ensures at c.has_type_flags.ensures in
    let unfree : Misses 0x220000 (scan t) = missed 0x220000 (scan t) c.has_type_flags.result c.if-has_type_flags.false asked in
    let nothing : met 0 t ≡ [] =
    rw c.new-visitor.ensures at passes.bound_alone c.are_regions_in_range.ensures.each unfree in
    none-found _ _ (ap not c.are_regions_in_range.ensures.holds) (λ some. some nothing)

pub returns-else-has_skipped : goal.returns-else-has_skipped
returns-else-has_skipped g c =
    let t = fill (meaning c.args.cx.now.rows) (g.Self.TypeVisitable.shape c.args.self.now) in
    let passes = goes-passes _ _ _ c.in-Continue.ensures.result in
    let none_skipped = sym c.has_skipped.ensures ∙ c.if-has_skipped.false in
    let nothing : met 0 t ≡ [] =
    rw c.new-visitor.ensures at (passes.unskipped none_skipped).1 in
    none-found _ _ c.if-has_skipped.false (λ some. some nothing)
