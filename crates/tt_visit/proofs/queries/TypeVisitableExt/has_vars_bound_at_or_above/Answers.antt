use Rattle.std.proofs.Common.{◌≤◌, not, ap, sym, ◌∙◌, arith}
use Rattle.tt_kinds.specs.Reading.{outer_binder}
use Rattle.tt_kinds.specs.Shape.{fill}
use Rattle.tt_interner.specs.Rows.{meaning}
use Rattle.tt_visit.proofs.HasEscapingVarsLaws.{goes-passes, breaks-reaches}
use Rattle.tt_visit.proofs.Found.{none-found, one-found}
use Rattle.tt_visit.proofs.queries.TypeVisitableExt.has_vars_bound_at_or_above.Goals as goal

pub returns-in-Break : goal.returns-in-Break
returns-in-Break g c = let reaches = breaks-reaches _ _ _ _ c.in-Break.ensures.result in one-found _ (rw c.new-visitor.ensures at reaches)

pub returns-then-has_skipped : goal.returns-then-has_skipped
returns-then-has_skipped g c =
    let passes = goes-passes _ _ _ c.in-Continue.ensures.result in
    let low : outer_binder (fill (meaning c.args.cx.now.rows) (g.Self.TypeVisitable.shape c.args.self.now)) ≤ c.args.binder =
    rw c.new-visitor.ensures at passes.in_range c.are_vars_in_range.ensures.each in
    none-found _ _ (ap not c.are_vars_in_range.ensures.holds) (λ far. omega arith)

pub returns-else-has_skipped : goal.returns-else-has_skipped
returns-else-has_skipped g c =
    let passes = goes-passes _ _ _ c.in-Continue.ensures.result in
    let none_skipped = sym c.has_skipped.ensures ∙ c.if-has_skipped.false in
    let low : outer_binder (fill (meaning c.args.cx.now.rows) (g.Self.TypeVisitable.shape c.args.self.now)) ≤ c.args.binder =
    rw c.new-visitor.ensures at (passes.unskipped none_skipped).1 in
    none-found _ _ c.if-has_skipped.false (λ far. omega arith)
