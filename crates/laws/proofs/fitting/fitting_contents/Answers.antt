-- no table has more rows than the limit, so the contents nest few binders
use Rattle.std.proofs.Common.{arith}
use Rattle.tt_kinds.specs.Kinds.{ty_shape}
use Rattle.tt_kinds.specs.declared.table.Table.TheVariants.{Types, Predicates, Existentials}
use Rattle.tt_interner.specs.Owned.{tree_in}
use Rattle.laws.proofs.fitting.fitting_contents.Goals as goal

pub returns : goal.returns
returns c =
    let rows = c.args.cx.now.rows in
    let s = ty_shape c.skip_binder-contents.result in
    let few = c.if-limit-gt-MOST_ROWS.false in
    let limit = c.limit.ensures in
    let types = c.are_rows.ensures.within Types in
    let predicates = c.are_rows.ensures.within Predicates in
    let existentials = c.are_rows.ensures.within Existentials in
    let owned = c.owns_ty.ensures.0 c.if-not-owns_ty.false in
    let binders = c.few_rows_fit.ensures rows 1 s c.are_rows.ensures.are owned (omega arith) in
    let indices = c.stored_indices_fit.ensures rows s c.are_rows.ensures.are owned tt in
    c.trees_fit.ensures 1 (tree_in rows s) indices binders
