-- few terms may nest binders, so the slice nests few
use Rattle.std.proofs.Common.{arith}
use Rattle.tt_kinds.specs.Kinds.{ty_shape}
use Rattle.laws.proofs.fitting.fitting_slice.Goals as goal

pub returns : goal.returns
returns c =
    let rows = c.mk_ty.new.self.rows in
    let s = ty_shape c.in_ok-slice.slice in
    let few = c.if-nesting_bound-gt-MOST_NESTED.false in
    let bound = c.nesting_bound.ensures in
    let owned = c.in_ok-slice.ensures.in_range in
    let binders = c.few_rows_fit.ensures rows 0 s c.are_rows.ensures.are owned (omega arith) in
    c.stored_values_fit.ensures rows s c.are_rows.ensures.are owned tt binders
