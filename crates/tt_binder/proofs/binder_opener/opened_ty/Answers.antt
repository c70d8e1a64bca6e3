use Rattle.std.proofs.Common.{[], ap, refl}
use Rattle.std.proofs.lemmas.List.{nil_from_length}
use Rattle.tt_kinds.specs.Label.{type_sort}
use Rattle.tt_kinds.specs.Bound.{ty_entry}
use Rattle.tt_kinds.specs.Kinds.{ty_shape}
use Rattle.tt_kinds.specs.declared.table.Table.TheVariants.{Types}
use Rattle.tt_kinds.specs.declared.ty_kind.TyKind.TheVariants as kind
use Rattle.tt_interner.specs.Rows.{type_row}
use Rattle.tt_fold.proofs.BoundLaws.{bound_stored}
use Rattle.tt_interner.specs.Arguments.{arguments}
use Rattle.tt_binder.specs.ArgumentLaws.{OwnsShifts-still}
use Rattle.tt_binder.proofs.OpeningSteps.{outside_built, own_lacks, own_put}
use Rattle.tt_binder.proofs.binder_opener.opened_ty.Goals as goal

pub returns-in-Some-clause-shifted : goal.returns-in-Some-clause-shifted
returns-in-Some-clause-shifted g c = OwnsShifts-still ty_shape _ _ _ type_sort c.args.shifted.now c.mk_ty.ensures.grows c.requires.shifted

pub returns-in-Some-clause-result : goal.returns-in-Some-clause-result
returns-in-Some-clause-result g c =
    let args = arguments c.args.cx.now.rows (g.S.SliceLike.items c.args.cx.now.rows c.args.args) in
    outside_built c.args.cx.now c.mk_ty.new.self args c.args.binders_passed type_sort (ty_entry c.args.bound_ty) c.args.index (λ h. h.number) Types c.mk_ty.result c.requires.outer c.in-Some.ensures.1
    (rw c.in-Some.ensures.0 at (bound_stored (λ h. h.number) Types (λ j. type_row (kind.Bound j c.args.bound_ty)) type_sort (ty_entry c.args.bound_ty) (λ _. refl) (λ _. refl)
    c.args.cx.now c.mk_ty.new.self c.in-Some.outer c.mk_ty.result tt c.mk_ty.ensures))

pub returns-then-is_empty-clause-result : goal.returns-then-is_empty-clause-result
returns-then-is_empty-clause-result g c =
    let none = ap (arguments c.args.cx.now.rows) (nil_from_length _ (c.is_empty.ensures.empty.0 c.if-is_empty.true)) in
    own_lacks c.args.cx.now.rows (arguments c.args.cx.now.rows (g.S.SliceLike.items c.args.cx.now.rows c.args.args)) c.args.binders_passed type_sort (ty_entry c.args.bound_ty) c.args.index c.in-None.ensures _ none

pub returns-else-is_empty-clause-result : goal.returns-else-is_empty-clause-result
returns-else-is_empty-clause-result g c =
    let args = arguments c.args.cx.now.rows (g.S.SliceLike.items c.args.cx.now.rows c.args.args) in
    own_put c.args.cx.now.rows args c.args.binders_passed type_sort (ty_entry c.args.bound_ty) c.args.index c.in-None.ensures _ c.type_argument.new.cx.rows ty_shape _ _ _ _ c.type_argument.result
    (rw (c.as_u32.ensures.number, c.var.ensures) at (c.type_argument.ensures.result []))
