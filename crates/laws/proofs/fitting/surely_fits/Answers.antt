-- few terms may nest binders, so the type nests few
use Rattle.std.proofs.Common.{arith}
use Rattle.tt_kinds.specs.Kinds.{ty_shape}
use Rattle.laws.proofs.fitting.surely_fits.Goals as goal

pub returns-clause-fits : goal.returns-clause-fits
returns-clause-fits c =
    let rows = c.args.cx.now.rows in
    let s = ty_shape c.args.ty in
    let few = c.if-nesting_bound-gt-MOST_NESTED.false in
    let bound = c.nesting_bound.ensures in
    let owned = c.owns_ty.ensures.0 c.if-not-owns_ty.false in
    let binders = c.few_rows_fit.ensures rows 0 s c.are_rows.ensures.are owned (omega arith) in
    λ surely. c.stored_values_fit.ensures rows s c.are_rows.ensures.are owned tt binders
