use Rattle.tt_kinds.specs.Shape.{fill}
use Rattle.tt_interner.specs.Rows.{meaning}
use Rattle.tt_visit.proofs.HasTypeFlagsLaws.{param-meets}
use Rattle.tt_visit.proofs.queries.TypeVisitableExt.has_param.Goals as goal

pub returns : goal.returns
returns g c =
    let is = param-meets (fill (meaning c.args.cx.now.rows) (g.Self.TypeVisitable.shape c.args.self.now)) in
    let asked = c.has_type_flags.ensures in
    (λ h. is.0 (asked.0 h), λ h. asked.1 (is.1 h))
