use Rattle.std.proofs.lemmas.Result.{IfOk-weaker}
use Rattle.tt_kinds.specs.Scan.{scan}
use Rattle.tt_kinds.specs.Shape.{fill}
use Rattle.tt_interner.specs.Rows.{meaning}
use Rattle.tt_visit.proofs.HasErrorLaws.{error-misses}
use Rattle.tt_visit.proofs.queries.TypeVisitableExt.non_region_error_reported.Goals as goal

pub returns-then-has_type_flags-clause-ok : goal.returns-then-has_type_flags-clause-ok
returns-then-has_type_flags-clause-ok g c =
    let flags = scan (fill (meaning c.args.cx.now.rows) (g.Self.TypeVisitable.shape c.args.self.now)) in
    IfOk-weaker c.error_reported.result _ _ (λ _ none_set. error-misses flags none_set) c.error_reported.ensures.ok
