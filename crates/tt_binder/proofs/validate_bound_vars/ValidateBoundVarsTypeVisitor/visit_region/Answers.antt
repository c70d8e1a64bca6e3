use Rattle.std.proofs.Common.{refl, ◌∙◌}
use Rattle.tt_interner.specs.Rows.{meaning}
use Rattle.tt_binder.specs.Validate.{vars_at}
use Rattle.tt_binder.proofs.ValidateLaws.{region_other}
use Rattle.tt_binder.proofs.validate_bound_vars.ValidateBoundVarsTypeVisitor.visit_region.Goals as goal

pub returns-in_default : goal.returns-in_default
returns-in_default c =
    let rows = c.args.cx.now.rows in
    let self = c.args.self.now in
    let other = region_other (meaning rows) (vars_at rows self.bound_vars) self.binder_index c.args.region (λ i b is. c.in_default.not-ReBound i b (c.kind.ensures.kind ∙ is)) in
    record { owned = c.requires.owned; broke = tt; result = (refl, other) }
