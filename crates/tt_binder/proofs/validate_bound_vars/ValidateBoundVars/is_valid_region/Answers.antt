use Rattle.std.proofs.Common.{refl, false}
use Rattle.std.specs.Prelude.{Some, None}
use Rattle.tt_kinds.specs.Bound.{depth, region_entry}
use Rattle.tt_kinds.specs.Label.{region_sort}
use Rattle.tt_kinds.specs.declared.bound.BoundVariableKind.TheVariants as variable
use Rattle.tt_binder.proofs.ValidateLaws.{valid_here, valid_elsewhere, same_entry, no_entry}
use Rattle.tt_binder.proofs.validate_bound_vars.ValidateBoundVars.is_valid_region.Goals as goal

pub returns-then-not-binds : goal.returns-then-not-binds
returns-then-not-binds c =
    let self = c.args.self.now in
    valid_elsewhere c.args.cx.now.rows self.bound_vars self.binder_index region_sort (depth c.args.index) (region_entry c.args.region) c.binds.result c.if-not-binds.true c.binds.ensures

pub returns-in-Some : goal.returns-in-Some
returns-in-Some c =
    let self = c.args.self.now in
    valid_here c.args.cx.now.rows c.are_rows.ensures.are self.bound_vars self.binder_index region_sort (depth c.args.index) (region_entry c.args.region) (variable.Region c.args.region.kind) refl c.requires.region (c.binds.ensures.0 c.if-not-binds.false)
    (Some c.in-Some.entry) c.in-Some.ensures c.agrees.result (same_entry (variable.Region c.args.region.kind) c.in-Some.entry c.agrees.result c.agrees.ensures)

pub returns-in-None : goal.returns-in-None
returns-in-None c =
    let self = c.args.self.now in
    valid_here c.args.cx.now.rows c.are_rows.ensures.are self.bound_vars self.binder_index region_sort (depth c.args.index) (region_entry c.args.region) (variable.Region c.args.region.kind) refl c.requires.region (c.binds.ensures.0 c.if-not-binds.false)
    None c.in-None.ensures false (no_entry (variable.Region c.args.region.kind))
