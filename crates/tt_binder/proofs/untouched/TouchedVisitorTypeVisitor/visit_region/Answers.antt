use Rattle.std.proofs.Common.{sym, ◌∙◌, inl, inr}
use Rattle.tt_interner.specs.Rows.{meaning}
use Rattle.tt_binder.proofs.HookLaws.{region_untouched, param_touched, var_touched}
use Rattle.tt_binder.proofs.untouched.TouchedVisitorTypeVisitor.visit_region.Goals as goal

pub returns-in-ReEarlyParam-clause-result : goal.returns-in-ReEarlyParam-clause-result
returns-in-ReEarlyParam-clause-result c = elim c.in-ReEarlyParam.is [
  | inl (p, e) ↦ param_touched (meaning c.args._cx.now.rows) c.args.region p (sym c.kind.ensures.kind ∙ e)
  | inr (v, e) ↦ var_touched (meaning c.args._cx.now.rows) c.args.region v (sym c.kind.ensures.kind ∙ e)
]

pub returns-in_default-clause-result : goal.returns-in_default-clause-result
returns-in_default-clause-result c =
    region_untouched (meaning c.args._cx.now.rows) c.args.region (λ p is. c.in_default.not-ReEarlyParam p (c.kind.ensures.kind ∙ is)) (λ v is. c.in_default.not-ReVar v (c.kind.ensures.kind ∙ is))
