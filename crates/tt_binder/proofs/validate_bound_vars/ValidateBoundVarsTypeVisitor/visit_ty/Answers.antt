use Rattle.std.proofs.Common.{inl, refl}
use Rattle.tt_kinds.specs.Kinds.{ty_shape}
use Rattle.tt_interner.specs.Rows.{meaning}
use Rattle.tt_fold.specs.Memory.{memos}
use Rattle.tt_fold.specs.Remember.{places}
use Rattle.tt_fold.specs.Steps.{tree_in}
use Rattle.tt_binder.specs.Validate.{vars_at}
use Rattle.tt_binder.proofs.RowArguments.{kind_tree}
use Rattle.tt_binder.proofs.ValidateLaws.{validation, looks_skip, looks_once, same_valid, same_wrong, same_root}
use Rattle.tt_binder.proofs.ValidateLaws.{told_no, ty_variable, ty_other}
use Rattle.tt_binder.proofs.validate_bound_vars.ValidateBoundVarsTypeVisitor.visit_ty.Goals as goal

pub returns-then-is_below-clause-result : goal.returns-then-is_below-clause-result
returns-then-is_below-clause-result c =
    let rows = c.args.cx.now.rows in
    let self = c.args.self.now in
    looks_skip (validation rows self.bound_vars self.binder_index self.visited) (tree_in rows (ty_shape c.args.ty)) c.outer_exclusive_binder.result c.outer_exclusive_binder.ensures (c.is_below.ensures.0 c.if-is_below.true)

pub returns-then-is_valid_ty-clause-result : goal.returns-then-is_valid_ty-clause-result
returns-then-is_valid_ty-clause-result c =
    let rows = c.args.cx.now.rows in
    let self = c.args.self.now in
    let same = ty_variable rows c.args.ty c.kind.result.now c.in-Bound.index c.in-Bound.variable c.are_rows.ensures.are c.kind.ensures.row c.in-Bound.is in
    (inl (same_valid (vars_at rows self.bound_vars) self.binder_index (tree_in rows (ty_shape c.args.ty)) _ same (c.is_valid_ty.ensures.0 c.if-is_valid_ty.true)), refl)

pub returns-else-is_valid_ty-clause-result : goal.returns-else-is_valid_ty-clause-result
returns-else-is_valid_ty-clause-result c =
    let rows = c.args.cx.now.rows in
    let self = c.args.self.now in
    let same = ty_variable rows c.args.ty c.kind.result.now c.in-Bound.index c.in-Bound.variable c.are_rows.ensures.are c.kind.ensures.row c.in-Bound.is in
    (refl, same_wrong (vars_at rows self.bound_vars) self.binder_index (tree_in rows (ty_shape c.args.ty)) _ same (told_no _ c.is_valid_ty.result c.if-is_valid_ty.false c.is_valid_ty.ensures))

pub returns-in_default : goal.returns-in_default
returns-in_default c =
    let rows = c.args.cx.now.rows in
    let self = c.args.self.now in
    let tree = tree_in rows (ty_shape c.args.ty) in
    let same = kind_tree rows c.args.ty c.kind.result.now c.are_rows.ensures.are c.kind.ensures.row in
    let root = same_root (vars_at rows self.bound_vars) self.binder_index tree _ same (ty_other (meaning rows) (vars_at rows self.bound_vars) self.binder_index c.kind.result.now c.in_default.not-Bound) in
    let once = rw c.as_u32-under.ensures.number at c.enter_once.ensures.next in
    record {
      owned = (c.requires.owned.0, c.enter_once.ensures.owned);
      broke = tt;
      result = looks_once (vars_at rows self.bound_vars) self.binder_index (places (memos rows self.visited)) (places (memos rows c.enter_once.new.visited)) tree c.enter_once.result root once;
    }
