use Rattle.std.proofs.Common.{inl, refl}
use Rattle.tt_kinds.specs.Kinds.{const_shape}
use Rattle.tt_interner.specs.Rows.{meaning}
use Rattle.tt_fold.specs.Steps.{tree_in}
use Rattle.tt_binder.specs.Validate.{vars_at}
use Rattle.tt_binder.proofs.RowArguments.{const_kind_tree}
use Rattle.tt_binder.proofs.ValidateLaws.{validation, looks_skip, looks_enter, same_valid, same_wrong, same_root}
use Rattle.tt_binder.proofs.ValidateLaws.{told_no, const_variable_tree, const_other}
use Rattle.tt_binder.proofs.validate_bound_vars.ValidateBoundVarsTypeVisitor.visit_const.Goals as goal

pub returns-then-is_below-clause-result : goal.returns-then-is_below-clause-result
returns-then-is_below-clause-result c =
    let rows = c.args.cx.now.rows in
    let self = c.args.self.now in
    looks_skip (validation rows self.bound_vars self.binder_index self.visited) (tree_in rows (const_shape c.args.constant)) c.outer_exclusive_binder.result c.outer_exclusive_binder.ensures (c.is_below.ensures.0 c.if-is_below.true)

pub returns-then-is_valid_const-clause-result : goal.returns-then-is_valid_const-clause-result
returns-then-is_valid_const-clause-result c =
    let rows = c.args.cx.now.rows in
    let self = c.args.self.now in
    let same = const_variable_tree rows c.args.constant c.kind.result.now c.in-Bound.index c.in-Bound.variable c.are_rows.ensures.are c.kind.ensures.row c.in-Bound.is in
    (inl (same_valid (vars_at rows self.bound_vars) self.binder_index (tree_in rows (const_shape c.args.constant)) _ same (c.is_valid_const.ensures.0 c.if-is_valid_const.true)), refl)

pub returns-else-is_valid_const-clause-result : goal.returns-else-is_valid_const-clause-result
returns-else-is_valid_const-clause-result c =
    let rows = c.args.cx.now.rows in
    let self = c.args.self.now in
    let same = const_variable_tree rows c.args.constant c.kind.result.now c.in-Bound.index c.in-Bound.variable c.are_rows.ensures.are c.kind.ensures.row c.in-Bound.is in
    (refl, same_wrong (vars_at rows self.bound_vars) self.binder_index (tree_in rows (const_shape c.args.constant)) _ same (told_no _ c.is_valid_const.result c.if-is_valid_const.false c.is_valid_const.ensures))

pub returns-in_default : goal.returns-in_default
returns-in_default c =
    let rows = c.args.cx.now.rows in
    let self = c.args.self.now in
    let tree = tree_in rows (const_shape c.args.constant) in
    let same = const_kind_tree rows c.args.constant c.kind.result.now c.are_rows.ensures.are c.kind.ensures.row in
    let root = same_root (vars_at rows self.bound_vars) self.binder_index tree _ same (const_other (meaning rows) (vars_at rows self.bound_vars) self.binder_index c.kind.result.now c.in_default.not-Bound) in
    record { owned = c.requires.owned; broke = tt; result = looks_enter (validation rows self.bound_vars self.binder_index self.visited) tree root }
