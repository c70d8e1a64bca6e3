use Rattle.tt_kinds.specs.Shape.{fill}
use Rattle.tt_print.proofs.PrintSteps.{writes-then, writes-printed}
use Rattle.tt_print.proofs.ir_print.values.write_bound.Goals as goal

pub returns : goal.returns
unfolding fill
returns g c =
    let variables = rw c.bound_vars.ensures at c.in_ok-write_variables.ensures in
    let ok = rw (c.skip_binder.ensures, c.as_ref.ensures.value) at c.print.ensures.ok in
    writes-then tt _ _ _ _ _ _ variables (writes-printed _ _ _ _ ok c.print.ensures.err)
