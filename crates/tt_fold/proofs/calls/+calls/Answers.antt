use Rattle.std.proofs.Common.{refl, sym, ◌∙◌, arith}
use Rattle.std.proofs.lemmas.Result.{err_from_is_err_and}
use Rattle.tt_kinds.specs.Kinds.{kind_form, kind_sort, kind_shape, child_shapes, parts_shapes, ty_shape}
use Rattle.tt_kinds.specs.Shape.{HasParts, IsTooDeep}
use Rattle.tt_kinds.specs.Handle.{any_handle}
use Rattle.tt_kinds.specs.declared.table.TermTable.TheVariants as terms_of
use Rattle.tt_kinds.specs.declared.parts.Parts.{Parts}
use Rattle.tt_interner.specs.Rows.{size}
use Rattle.tt_interner.specs.Nodes.{stored_kind}
use Rattle.tt_interner.proofs.Growth.{Extends-trans, HasParts-grows, IsPart-grows, AreParts-grows, stored_kind-grows}
use Rattle.tt_interner.proofs.NodeSteps.{same-sort, refilled_parts}
use Rattle.tt_fold.specs.Steps.{errors_of}
use Rattle.tt_fold.specs.GrowthLaws.{stored-adds, kind-no_symbol}
use Rattle.tt_fold.proofs.PartLaws.{left_parts, right_parts}
use Rattle.tt_fold.proofs.WantedLaws.{memory_unbuilt}
use Rattle.tt_fold.proofs.FormLaws.{is_inner, not-deep, form-parts}
use Rattle.tt_fold.proofs.FoldSteps.{stands-still, stored_term, stored_term_tree, not_stored, parts_first_fails}
use Rattle.tt_fold.proofs.FoldSteps.{parts_second_fails, parts_fold}
use Rattle.tt_fold.proofs.ItemSteps.{open_leaf}
use Rattle.tt_fold.proofs.ChildSteps.{inside_none}
use Rattle.tt_fold.proofs.CallSteps.{ty_not_asked, ty_replaced, ty_kept, ty_descends, descent_fails_inside}
use Rattle.tt_fold.proofs.CallSteps.{descent_fails_after, descent_ends, tys_not_alone, stored_fails, stored_folds}
use Rattle.tt_fold.proofs.CallSteps.{child_not_folded, child_folded, region_not_folded, region_folded}
use Rattle.tt_fold.proofs.CallSteps.{absent_folded, not_entered, entered, contents_fail_in_parts}
use Rattle.tt_fold.proofs.CallSteps.{contents_not_left, contents_not_stored, contents_stored, refilled_tree}
use Rattle.tt_fold.proofs.CallSteps.{tys_not_stored, types_none, types_inside, next_in_range, types_more}
use Rattle.tt_fold.proofs.CallSteps.{types_one_fails, types_stop, types_not_stored, types_stored}
use Rattle.tt_fold.proofs.calls.+calls.Goals as goal

pub fold_within-fold_stored_within-requires : goal.fold_within-fold_stored_within-requires
fold_within-fold_stored_within-requires g t c κs within =
    let part = rw c.in-Stored.is at c.requires.child in
    (omega arith, (within.0, (within.1.0, (within.1.1, (c.requires.owned, part.0)))))

pub fold_within-returns-in_err-folded-in-Stored-clause-still : goal.fold_within-returns-in_err-folded-in-Stored-clause-still
fold_within-returns-in_err-folded-in-Stored-clause-still g t c = rw c.in-Stored.is c.in_err-folded-in-Stored.ensures.still

pub fold_within-returns-in_ok-folded-in-Stored-clause-still : goal.fold_within-returns-in_ok-folded-in-Stored-clause-still
fold_within-returns-in_ok-folded-in-Stored-clause-still g t c = rw c.in-Stored.is c.in_ok-folded-in-Stored.ensures.still

pub fold_within-returns-in_err-folded-in-Stored-clause-folds : goal.fold_within-returns-in_err-folded-in-Stored-clause-folds
fold_within-returns-in_err-folded-in-Stored-clause-folds g t c =
    let p = err_from_is_err_and c.from_residual.result c.from_residual.ensures.1 in
    rw (p.1, p.2) (child_not_folded c.in-Stored.is c.in_err-folded-in-Stored.ensures.folds)

pub fold_within-returns-in_ok-folded-in-Stored-clause-folds : goal.fold_within-returns-in_ok-folded-in-Stored-clause-folds
fold_within-returns-in_ok-folded-in-Stored-clause-folds g t c = child_folded c.in-Stored.is c.in_ok-folded-in-Stored.ensures.folds

pub fold_within-returns-in_err-new_region-in-Region-clause-folds : goal.fold_within-returns-in_err-new_region-in-Region-clause-folds
fold_within-returns-in_err-new_region-in-Region-clause-folds g t c =
    let p = err_from_is_err_and c.from_residual-in_err-new_region-in-Region.result c.from_residual-in_err-new_region-in-Region.ensures.1 in
    let h = c.in_err-new_region-in-Region.ensures in
    rw (p.1, p.2) (region_not_folded c.in-Region.is h.extends h.owned h.result)

pub fold_within-returns-in_ok-new_region-in-Region-clause-folds : goal.fold_within-returns-in_ok-new_region-in-Region-clause-folds
fold_within-returns-in_ok-new_region-in-Region-clause-folds g t c =
    let h = c.in_ok-new_region-in-Region.ensures in
    region_folded c.in-Region.is h.extends h.owned h.result.0 h.result.1

pub fold_within-returns-in-Absent-clause-folds : goal.fold_within-returns-in-Absent-clause-folds
fold_within-returns-in-Absent-clause-folds g t c = absent_folded c.in-Absent.is c.requires.owned

pub fold_stored_within-fold_ty-requires : goal.fold_stored_within-fold_ty-requires
fold_stored_within-fold_ty-requires g t c κs within =
    (omega arith, (within.0, (within.1.0, (within.1.1, (c.requires.owned, rw c.typed.ensures at c.requires.handle)))))

pub fold_stored_within-fold_tys-requires : goal.fold_stored_within-fold_tys-requires
fold_stored_within-fold_tys-requires g t c κs within =
    (omega arith, (within.0, (within.1.0, (within.1.1, (c.requires.owned, rw c.typed-in-TypeLists.ensures at c.requires.handle)))))

pub fold_stored_within-returns-in_err-new_ty-in-Types-clause-still : goal.fold_stored_within-returns-in_err-new_ty-in-Types-clause-still
fold_stored_within-returns-in_err-new_ty-in-Types-clause-still g t c = rw c.typed.ensures c.in_err-new_ty-in-Types.ensures.still

pub fold_stored_within-returns-in_ok-new_ty-in-Types-clause-still : goal.fold_stored_within-returns-in_ok-new_ty-in-Types-clause-still
fold_stored_within-returns-in_ok-new_ty-in-Types-clause-still g t c = rw c.typed.ensures c.in_ok-new_ty-in-Types.ensures.still

pub fold_stored_within-returns-in_err-new_tys-in-TypeLists-clause-still : goal.fold_stored_within-returns-in_err-new_tys-in-TypeLists-clause-still
fold_stored_within-returns-in_err-new_tys-in-TypeLists-clause-still g t c =
    λ alone ends. absurd (tys_not_alone c.args.handle c.in-TypeLists.is alone)

pub fold_stored_within-returns-in_ok-new_tys-in-TypeLists-clause-still : goal.fold_stored_within-returns-in_ok-new_tys-in-TypeLists-clause-still
fold_stored_within-returns-in_ok-new_tys-in-TypeLists-clause-still g t c =
    λ alone ends. absurd (tys_not_alone c.args.handle c.in-TypeLists.is alone)

pub fold_stored_within-returns-in_err-new_ty-in-Types-clause-folds : goal.fold_stored_within-returns-in_err-new_ty-in-Types-clause-folds
fold_stored_within-returns-in_err-new_ty-in-Types-clause-folds g t c =
    let p = err_from_is_err_and c.from_residual.result c.from_residual.ensures.1 in
    rw (p.1, p.2) (stored_fails terms_of.Types c.typed.ensures c.in_err-new_ty-in-Types.ensures.folds)

pub fold_stored_within-returns-in_ok-new_ty-in-Types-clause-folds : goal.fold_stored_within-returns-in_ok-new_ty-in-Types-clause-folds
fold_stored_within-returns-in_ok-new_ty-in-Types-clause-folds g t c =
    rw c.any.ensures (stored_folds terms_of.Types c.typed.ensures c.in_ok-new_ty-in-Types.ensures.folds)

pub fold_stored_within-returns-in_err-new_tys-in-TypeLists-clause-folds : goal.fold_stored_within-returns-in_err-new_tys-in-TypeLists-clause-folds
fold_stored_within-returns-in_err-new_tys-in-TypeLists-clause-folds g t c =
    let p = err_from_is_err_and c.from_residual-in_err-new_tys-in-TypeLists.result c.from_residual-in_err-new_tys-in-TypeLists.ensures.1 in
    rw (p.1, p.2) (stored_fails terms_of.TypeLists c.typed-in-TypeLists.ensures c.in_err-new_tys-in-TypeLists.ensures)

pub fold_stored_within-returns-in_ok-new_tys-in-TypeLists-clause-folds : goal.fold_stored_within-returns-in_ok-new_tys-in-TypeLists-clause-folds
fold_stored_within-returns-in_ok-new_tys-in-TypeLists-clause-folds g t c =
    rw c.any-in-TypeLists.ensures (stored_folds terms_of.TypeLists c.typed-in-TypeLists.ensures c.in_ok-new_tys-in-TypeLists.ensures)

pub fold_ty-core_term-requires-clause-handle : goal.fold_ty-core_term-requires-clause-handle
fold_ty-core_term-requires-clause-handle g t c = rw c.any.ensures c.requires.ty

pub fold_ty-core_term-requires-clause-hooked : goal.fold_ty-core_term-requires-clause-hooked
fold_ty-core_term-requires-clause-hooked g t c = rw c.any.ensures refl

pub fold_ty-returns-in_err-step-clause-still : goal.fold_ty-returns-in_err-step-clause-still
fold_ty-returns-in_err-step-clause-still g t c =
    let still = rw c.any.ensures at c.in_err-step.ensures.still in
    λ alone ends. still ends.still

pub fold_ty-returns-in_err-step-clause-folds : goal.fold_ty-returns-in_err-step-clause-folds
fold_ty-returns-in_err-step-clause-folds g t c =
    let p = err_from_is_err_and c.from_residual.result c.from_residual.ensures.1 in
    let h = rw c.any.ensures at c.in_err-step.ensures.goes in
    rw (p.1, p.2) (ty_not_asked c.requires.ty h.extends h.is_owned h.outcome)

pub fold_ty-typed-requires : goal.fold_ty-typed-requires
fold_ty-typed-requires g t c =
    let h = rw (c.in-Replace.is, c.any.ensures) at c.in_ok-step.ensures.goes in
    h.outcome.0.like

pub fold_ty-returns-in-Replace-clause-still : goal.fold_ty-returns-in-Replace-clause-still
fold_ty-returns-in-Replace-clause-still g t c =
    let still = rw c.any.ensures at c.in_ok-step.ensures.still in
    λ alone ends. still ends.still

pub fold_ty-returns-in-Replace-clause-folds : goal.fold_ty-returns-in-Replace-clause-folds
fold_ty-returns-in-Replace-clause-folds g t c =
    let h = rw (c.in-Replace.is, c.any.ensures) at c.in_ok-step.ensures.goes in
    ty_replaced _ c.requires.ty h.extends h.is_owned h.outcome.0 c.typed.ensures h.outcome.1

pub fold_ty-returns-in-Keep-clause-still : goal.fold_ty-returns-in-Keep-clause-still
fold_ty-returns-in-Keep-clause-still g t c =
    let still = rw c.any.ensures at c.in_ok-step.ensures.still in
    λ alone ends. still ends.still

pub fold_ty-returns-in-Keep-clause-folds : goal.fold_ty-returns-in-Keep-clause-folds
fold_ty-returns-in-Keep-clause-folds g t c =
    let h = rw (c.in-Keep.is, c.any.ensures) at c.in_ok-step.ensures.goes in
    ty_kept c.requires.ty h.extends h.is_owned h.outcome.1

pub fold_ty-returns-in-Descend-clause-still : goal.fold_ty-returns-in-Descend-clause-still
fold_ty-returns-in-Descend-clause-still g t c =
    let h = rw (c.in-Descend.is, c.any.ensures) at c.in_ok-step.ensures.goes in
    λ alone ends. absurd (ends.ends _ h.outcome.1)

pub fold_ty-returns-in-Descend-clause-folds : goal.fold_ty-returns-in-Descend-clause-folds
fold_ty-returns-in-Descend-clause-folds g t c =
    let h = rw (c.in-Descend.is, c.any.ensures) at c.in_ok-step.ensures.goes in
    ty_descends c.requires.ty h.extends h.outcome.1 c.descend.ensures

pub descend-returns-in_err-rebuilt : goal.descend-returns-in_err-rebuilt
descend-returns-in_err-rebuilt g t c =
    let p = err_from_is_err_and c.from_residual.result c.from_residual.ensures.1 in
    rw (p.1, p.2) (descent_fails_inside c.in_err-rebuilt.ensures)

pub descend-core_after_term-requires-clause-before : goal.descend-core_after_term-requires-clause-before
descend-core_after_term-requires-clause-before g t c =
    rw c.any.ensures (IsPart-grows _ _ c.in_ok-rebuilt.ensures.extends.rows (ty_shape c.args.ty) c.requires.ty)

pub descend-core_after_term-requires-clause-hooked : goal.descend-core_after_term-requires-clause-hooked
descend-core_after_term-requires-clause-hooked g t c = rw c.any.ensures refl

pub descend-core_after_term-requires-clause-rebuilt : goal.descend-core_after_term-requires-clause-rebuilt
descend-core_after_term-requires-clause-rebuilt g t c = rw c.any.ensures c.in_ok-rebuilt.ensures.outcome.0

pub descend-returns-in_err-new_term : goal.descend-returns-in_err-new_term
descend-returns-in_err-new_term g t c =
    let p = err_from_is_err_and c.from_residual-in_err-new_term.result c.from_residual-in_err-new_term.ensures.1 in
    let h = rw c.any.ensures at c.in_err-new_term.ensures in
    rw (p.1, p.2) (descent_fails_after c.requires.ty c.in_ok-rebuilt.ensures h.extends h.is_owned h.outcome)

pub descend-typed-requires : goal.descend-typed-requires
descend-typed-requires g t c =
    let h = rw c.any.ensures at c.in_ok-new_term.ensures in
    h.outcome.0.like

pub descend-returns : goal.descend-returns
descend-returns g t c =
    let h = rw c.any.ensures at c.in_ok-new_term.ensures in
    descent_ends _ c.requires.ty c.in_ok-rebuilt.ensures h.extends h.is_owned h.outcome.0 c.typed.ensures h.outcome.1

pub fold_contents_of-fold_inside-requires-clause-handle : goal.fold_contents_of-fold_inside-requires-clause-handle
fold_contents_of-fold_inside-requires-clause-handle g t c = rw c.any-handle.ensures c.requires.ty

pub fold_contents_of-fold_inside-requires-clause-term : goal.fold_contents_of-fold_inside-requires-clause-term
fold_contents_of-fold_inside-requires-clause-term g t c = rw c.any-handle.ensures refl

pub fold_contents_of-returns-then-levels-eq0 : goal.fold_contents_of-returns-then-levels-eq0
fold_contents_of-returns-then-levels-eq0 g t c = rw c.any-handle.ensures at c.fold_inside.ensures

pub fold_contents_of-node_parts-contents-requires-clause-owned : goal.fold_contents_of-node_parts-contents-requires-clause-owned
fold_contents_of-node_parts-contents-requires-clause-owned g t c = rw c.any-handle.ensures c.requires.ty

pub fold_contents_of-node_parts-contents-requires-clause-has_kind : goal.fold_contents_of-node_parts-contents-requires-clause-has_kind
fold_contents_of-node_parts-contents-requires-clause-has_kind g t c = rw c.any-handle.ensures refl

pub fold_contents_of-returns-then-is_leaf : goal.fold_contents_of-returns-then-is_leaf
fold_contents_of-returns-then-is_leaf g t c =
    let is = rw c.any-handle.ensures at c.node_parts-contents.ensures in
    let leaf = rw (is.bound_vars, is.children) at (c.if-is_leaf.ensures.0 refl) in
    rw c.any-handle.ensures
    (inside_none {other = errors_of g.F.Error.From.from_gives c.args.cx.now} c.requires.ty (open_leaf (any_handle terms_of.Types c.args.ty) c.requires.owned is.means leaf))

pub fold_contents_of-returns-in_err-enter : goal.fold_contents_of-returns-in_err-enter
fold_contents_of-returns-in_err-enter g t c =
    let p = err_from_is_err_and c.from_residual.result c.from_residual.ensures.1 in
    let is = rw c.any-handle.ensures at c.node_parts-contents.ensures in
    let k = stored_kind c.args.cx.now.rows (any_handle terms_of.Types c.args.ty) in
    let inner = is_inner k (rw (is.bound_vars, is.children) at c.if-is_leaf.ensures.1) in
    rw (p.1, p.2) (not_entered (any_handle terms_of.Types c.args.ty) k is.means inner is.bound_vars c.in_err-enter.ensures)

pub fold_contents_of-fold_within-requires : goal.fold_contents_of-fold_within-requires
fold_contents_of-fold_within-requires g t c κs within =
    let is = rw c.any-handle.ensures at c.node_parts-contents.ensures in
    let k = stored_kind c.args.cx.now.rows (any_handle terms_of.Types c.args.ty) in
    let parts = form-parts _ (kind_sort k) (kind_form k) is.parts in
    let own = rw (← is.children) at parts in
    let first = left_parts _ (child_shapes c.node_parts-contents.result.parts.first) (child_shapes c.node_parts-contents.result.parts.second) own in
    let e = c.in_ok-enter.ensures in
    (omega (arith, c.if-levels-eq0.false), (within.0, (within.1.0, (within.1.1, (e.is_owned, AreParts-grows _ _ e.extends.rows _ first)))))

pub fold_contents_of-returns-in_err-first : goal.fold_contents_of-returns-in_err-first
fold_contents_of-returns-in_err-first g t c =
    let p = err_from_is_err_and c.from_residual-in_err-first.result c.from_residual-in_err-first.ensures.1 in
    let is = rw c.any-handle.ensures at c.node_parts-contents.ensures in
    let k = stored_kind c.args.cx.now.rows (any_handle terms_of.Types c.args.ty) in
    let inner = is_inner k (rw (is.bound_vars, is.children) at c.if-is_leaf.ensures.1) in
    let i = entered (any_handle terms_of.Types c.args.ty) k refl c.requires.ty is.means is.parts inner is.bound_vars is.children c.in_ok-enter.ensures in
    rw (p.1, p.2) (contents_fail_in_parts i (parts_first_fails {p = c.node_parts-contents.result.parts} c.in_err-first.ensures.folds))

pub fold_contents_of-fold_within-requires-2 : goal.fold_contents_of-fold_within-requires-2
fold_contents_of-fold_within-requires-2 g t c κs within =
    let is = rw c.any-handle.ensures at c.node_parts-contents.ensures in
    let k = stored_kind c.args.cx.now.rows (any_handle terms_of.Types c.args.ty) in
    let parts = form-parts _ (kind_sort k) (kind_form k) is.parts in
    let own = rw (← is.children) at parts in
    let second = right_parts _ (child_shapes c.node_parts-contents.result.parts.first) (child_shapes c.node_parts-contents.result.parts.second) own in
    let a = c.in_ok-first.ensures.folds in
    let extends = Extends-trans c.in_ok-enter.ensures.extends a.extends in
    (omega (arith, c.if-levels-eq0.false), (within.0, (within.1.0, (within.1.1, (a.is_owned, AreParts-grows _ _ extends.rows _ second)))))

pub fold_contents_of-returns-in_err-second : goal.fold_contents_of-returns-in_err-second
fold_contents_of-returns-in_err-second g t c =
    let p = err_from_is_err_and c.from_residual-in_err-second.result c.from_residual-in_err-second.ensures.1 in
    let is = rw c.any-handle.ensures at c.node_parts-contents.ensures in
    let k = stored_kind c.args.cx.now.rows (any_handle terms_of.Types c.args.ty) in
    let inner = is_inner k (rw (is.bound_vars, is.children) at c.if-is_leaf.ensures.1) in
    let i = entered (any_handle terms_of.Types c.args.ty) k refl c.requires.ty is.means is.parts inner is.bound_vars is.children c.in_ok-enter.ensures in
    let parts = AreParts-grows _ _ i.extends.rows (parts_shapes c.node_parts-contents.result.parts) i.parts in
    rw (p.1, p.2) (contents_fail_in_parts i (parts_second_fails {p = c.node_parts-contents.result.parts} parts c.in_ok-first.ensures.folds c.in_err-second.ensures.folds))

pub fold_contents_of-returns-in_err-leave : goal.fold_contents_of-returns-in_err-leave
fold_contents_of-returns-in_err-leave g t c =
    let p = err_from_is_err_and c.from_residual-in_err-leave.result c.from_residual-in_err-leave.ensures.1 in
    let is = rw c.any-handle.ensures at c.node_parts-contents.ensures in
    let k = stored_kind c.args.cx.now.rows (any_handle terms_of.Types c.args.ty) in
    let inner = is_inner k (rw (is.bound_vars, is.children) at c.if-is_leaf.ensures.1) in
    let i = entered (any_handle terms_of.Types c.args.ty) k refl c.requires.ty is.means is.parts inner is.bound_vars is.children c.in_ok-enter.ensures in
    let parts = AreParts-grows _ _ i.extends.rows (parts_shapes c.node_parts-contents.result.parts) i.parts in
    let f = parts_fold {p = c.node_parts-contents.result.parts} parts c.in_ok-first.ensures.folds c.in_ok-second.ensures.folds in
    rw (p.1, p.2) (contents_not_left i f c.in_err-leave.ensures)

pub fold_contents_of-store_like-requires-clause-owned : goal.fold_contents_of-store_like-requires-clause-owned
fold_contents_of-store_like-requires-clause-owned g t c =
    let e = c.in_ok-enter.ensures in
    let a = c.in_ok-first.ensures.folds in
    let b = c.in_ok-second.ensures.folds in
    let extends = Extends-trans (Extends-trans (Extends-trans e.extends a.extends) b.extends) c.in_ok-leave.ensures.extends in
    rw c.any-handle.ensures (IsPart-grows _ _ extends.rows (ty_shape c.args.ty) c.requires.ty)

pub fold_contents_of-store_like-requires-clause-has_kind : goal.fold_contents_of-store_like-requires-clause-has_kind
fold_contents_of-store_like-requires-clause-has_kind g t c = rw c.any-handle.ensures refl

pub fold_contents_of-store_like-requires-clause-like : goal.fold_contents_of-store_like-requires-clause-like
fold_contents_of-store_like-requires-clause-like g t c =
    let is = rw c.any-handle.ensures at c.node_parts-contents.ensures in
    let e = c.in_ok-enter.ensures in
    let a = c.in_ok-first.ensures.folds in
    let b = c.in_ok-second.ensures.folds in
    let extends = Extends-trans (Extends-trans (Extends-trans e.extends a.extends) b.extends) c.in_ok-leave.ensures.extends in
    rw (c.any-handle.ensures, stored_kind-grows _ _ extends.rows (any_handle terms_of.Types c.args.ty) c.requires.ty, ← is.children)
    (record { first = a.outcome.0.like; second = b.outcome.0.like })

pub fold_contents_of-store_like-requires-clause-parts : goal.fold_contents_of-store_like-requires-clause-parts
fold_contents_of-store_like-requires-clause-parts g t c =
    let is = rw c.any-handle.ensures at c.node_parts-contents.ensures in
    let k = stored_kind c.args.cx.now.rows (any_handle terms_of.Types c.args.ty) in
    let inner = is_inner k (rw (is.bound_vars, is.children) at c.if-is_leaf.ensures.1) in
    let i = entered (any_handle terms_of.Types c.args.ty) k refl c.requires.ty is.means is.parts inner is.bound_vars is.children c.in_ok-enter.ensures in
    let parts = AreParts-grows _ _ i.extends.rows (parts_shapes c.node_parts-contents.result.parts) i.parts in
    let f = parts_fold {p = c.node_parts-contents.result.parts} parts c.in_ok-first.ensures.folds c.in_ok-second.ensures.folds in
    AreParts-grows _ _ c.in_ok-leave.ensures.extends.rows _ f.outcome.0.owned

pub fold_contents_of-returns-in_err-rebuilt : goal.fold_contents_of-returns-in_err-rebuilt
fold_contents_of-returns-in_err-rebuilt g t c =
    let p = err_from_is_err_and c.from_residual-in_err-rebuilt.result c.from_residual-in_err-rebuilt.ensures.1 in
    let is = rw c.any-handle.ensures at c.node_parts-contents.ensures in
    let k = stored_kind c.args.cx.now.rows (any_handle terms_of.Types c.args.ty) in
    let inner = is_inner k (rw (is.bound_vars, is.children) at c.if-is_leaf.ensures.1) in
    let i = entered (any_handle terms_of.Types c.args.ty) k refl c.requires.ty is.means is.parts inner is.bound_vars is.children c.in_ok-enter.ensures in
    let own = AreParts-grows _ _ i.extends.rows (parts_shapes c.node_parts-contents.result.parts) i.parts in
    let f = parts_fold {p = c.node_parts-contents.result.parts} own c.in_ok-first.ensures.folds c.in_ok-second.ensures.folds in
    let d = c.in_ok-leave.ensures in
    let h = rw c.any-handle.ensures at c.in_err-rebuilt.ensures in
    let q : Parts = record { first = c.in_ok-first.first; second = c.in_ok-second.second } in
    let grows = (Extends-trans (Extends-trans i.extends f.extends) d.extends).rows in
    let form = rw (stored_kind-grows _ _ grows (any_handle terms_of.Types c.args.ty) c.requires.ty) at h.form in
    let sort = same-sort h.kind k (h.table ∙ sym is.table) in
    let shallow : IsTooDeep (kind_shape h.kind) → ⊥ = rw (sort, form) (not-deep (kind_sort k) q (kind_form k) inner) in
    let owned = AreParts-grows _ _ d.extends.rows _ f.outcome.0.owned in
    let parts : HasParts (size c.leave.new.cx.rows) (kind_shape h.kind) =
    rw (sort, form) (refilled_parts (size c.leave.new.cx.rows) (kind_sort k) q (kind_form k) (HasParts-grows _ _ grows (kind_shape k) is.parts) owned) in
    let cause = not_stored c.leave.new.cx h.kind _ parts shallow h.builds.cause in
    let built = refilled_tree k h.kind q grows d.extends.rows is.parts inner f.outcome.0.owned form sort in
    rw p.1 (contents_not_stored _ i f d built h.builds.err (c.in_err-rebuilt.field-0.0, (p.2, rw h.builds.err cause)))

pub fold_contents_of-returns : goal.fold_contents_of-returns
fold_contents_of-returns g t c =
    let is = rw c.any-handle.ensures at c.node_parts-contents.ensures in
    let k = stored_kind c.args.cx.now.rows (any_handle terms_of.Types c.args.ty) in
    let inner = is_inner k (rw (is.bound_vars, is.children) at c.if-is_leaf.ensures.1) in
    let i = entered (any_handle terms_of.Types c.args.ty) k refl c.requires.ty is.means is.parts inner is.bound_vars is.children c.in_ok-enter.ensures in
    let own = AreParts-grows _ _ i.extends.rows (parts_shapes c.node_parts-contents.result.parts) i.parts in
    let f = parts_fold {p = c.node_parts-contents.result.parts} own c.in_ok-first.ensures.folds c.in_ok-second.ensures.folds in
    let d = c.in_ok-leave.ensures in
    let h = rw c.any-handle.ensures at c.in_ok-rebuilt.ensures in
    let q : Parts = record { first = c.in_ok-first.first; second = c.in_ok-second.second } in
    let grows = (Extends-trans (Extends-trans i.extends f.extends) d.extends).rows in
    let form = rw (stored_kind-grows _ _ grows (any_handle terms_of.Types c.args.ty) c.requires.ty) at h.form in
    let sort = same-sort h.kind k (h.table ∙ sym is.table) in
    let adds = stored-adds (kind-no_symbol h.kind) h.builds.stored in
    let of_kind = h.of_table ∙ sym h.table in
    let built = refilled_tree k h.kind q grows d.extends.rows is.parts inner f.outcome.0.owned form sort in
    contents_stored i f d (stored_term_tree _ _ c.in_ok-rebuilt.rebuilt h.kind h.builds.means of_kind ∙ built) (stored_term _ _ _ h.kind h.builds.in_range of_kind h.table)
    (record { rows = h.builds.grows; limit = h.builds.limit }) (g.met.F.Core.still_owned _ _ _ adds d.is_owned)
    (stands-still g.F.Core.meaning c.leave.new.cx c.store_like.new.self c.leave.new.folder (g.met.F.Core.still_means _ _ _ adds d.is_owned) h.builds.counters)

pub fold_tys-loop-next-init : goal.fold_tys-loop-next-init
fold_tys-loop-next-init g t c =
    types_none _ c.requires.owned c.as_slice-count.ensures refl c.new-types.ensures.items

pub fold_tys-type_at-ty-requires-clause-inside : goal.fold_tys-type_at-ty-requires-clause-inside
fold_tys-type_at-ty-requires-clause-inside g t c = types_inside c.loop-next.invariant c.loop-next-test.true

pub fold_tys-fold_ty-requires : goal.fold_tys-fold_ty-requires
fold_tys-fold_ty-requires g t c κs within =
    let h = c.loop-next.invariant in
    (omega arith, (within.0, (within.1.0, (within.1.1, (h.folded.is_owned, next_in_range h c.type_at-ty.ensures)))))

pub fold_tys-returns-in_err-new_ty : goal.fold_tys-returns-in_err-new_ty
fold_tys-returns-in_err-new_ty g t c =
    let p = err_from_is_err_and c.from_residual.result c.from_residual.ensures.1 in
    rw (p.1, p.2) (types_one_fails c.loop-next.invariant c.type_at-ty.ensures c.in_err-new_ty.ensures.folds)

pub fold_tys-loop-next-preserved : goal.fold_tys-loop-next-preserved
fold_tys-loop-next-preserved g t c =
    types_more c.loop-next.invariant c.type_at-ty.ensures c.in_ok-new_ty.ensures.folds c.in_ok-push_ty.ensures.ok

pub fold_tys-returns-in_err-push_ty : goal.fold_tys-returns-in_err-push_ty
fold_tys-returns-in_err-push_ty g t c =
    let p = err_from_is_err_and c.from_residual-in_err-push_ty.result c.from_residual-in_err-push_ty.ensures.1 in
    let more = types_more c.loop-next.invariant c.type_at-ty.ensures c.in_ok-new_ty.ensures.folds refl in
    rw p.1 (types_stop more (λ u. (c.in_err-push_ty.field-0.0, (p.2, memory_unbuilt c.fold_ty.new.cx u _ c.in_err-push_ty.ensures.memory))))

pub fold_tys-returns-in_err-new_tys : goal.fold_tys-returns-in_err-new_tys
fold_tys-returns-in_err-new_tys g t c =
    let p = err_from_is_err_and c.from_residual-in_err-new_tys.result c.from_residual-in_err-new_tys.ensures.1 in
    let h = rw c.as_slice.ensures at c.in_err-new_tys.ensures in
    let inv = c.loop-next.invariant in
    let cause = tys_not_stored _ _ _ inv.folded.are_values h.cause in
    rw p.1 (types_not_stored inv c.loop-next-test.false h.err (c.in_err-new_tys.field-0.0, (p.2, rw h.err cause)))

pub fold_tys-returns : goal.fold_tys-returns
fold_tys-returns g t c =
    let h = rw c.as_slice.ensures at c.in_ok-new_tys.ensures in
    let inv = c.loop-next.invariant in
    let o = inv.folded.is_owned in
    let adds = stored-adds refl h.stored in
    types_stored inv c.loop-next-test.false (record { rows = h.grows; limit = h.limit }) (g.met.F.Core.still_owned _ _ _ adds o)
    (stands-still g.F.Core.meaning c.loop-next.cx c.mk_tys.new.self c.loop-next.folder (g.met.F.Core.still_means _ _ _ adds o) h.counters)
    h.in_range h.means
