use Rattle.std.proofs.Common.{[], ap, refl}
use Rattle.std.proofs.lemmas.List.{nil_from_length}
use Rattle.tt_kinds.specs.Label.{const_sort}
use Rattle.tt_kinds.specs.Bound.{const_entry}
use Rattle.tt_kinds.specs.Kinds.{const_shape}
use Rattle.tt_kinds.specs.declared.table.Table.TheVariants.{Consts}
use Rattle.tt_kinds.specs.declared.const_kind.ConstKind.TheVariants as kind
use Rattle.tt_interner.specs.Rows.{const_row}
use Rattle.tt_fold.proofs.BoundLaws.{bound_stored}
use Rattle.tt_interner.specs.Arguments.{arguments}
use Rattle.tt_binder.specs.ArgumentLaws.{OwnsShifts-still}
use Rattle.tt_binder.proofs.OpeningSteps.{outside_built, own_lacks, own_put}
use Rattle.tt_binder.proofs.binder_opener.opened_const.Goals as goal

pub returns-in-Some-clause-shifted : goal.returns-in-Some-clause-shifted
returns-in-Some-clause-shifted g c = OwnsShifts-still const_shape _ _ _ const_sort c.args.shifted.now c.mk_const.ensures.grows c.requires.shifted

pub returns-in-Some-clause-result : goal.returns-in-Some-clause-result
returns-in-Some-clause-result g c =
    let args = arguments c.args.cx.now.rows (g.S.SliceLike.items c.args.cx.now.rows c.args.args) in
    outside_built c.args.cx.now c.mk_const.new.self args c.args.binders_passed const_sort (const_entry c.args.bound_const) c.args.index (λ h. h.number) Consts c.mk_const.result c.requires.outer c.in-Some.ensures.1
    (rw c.in-Some.ensures.0 at (bound_stored (λ h. h.number) Consts (λ j. const_row (kind.Bound j c.args.bound_const)) const_sort (const_entry c.args.bound_const) (λ _. refl) (λ _. refl)
    c.args.cx.now c.mk_const.new.self c.in-Some.outer c.mk_const.result tt c.mk_const.ensures))

pub returns-then-is_empty-clause-result : goal.returns-then-is_empty-clause-result
returns-then-is_empty-clause-result g c =
    let none = ap (arguments c.args.cx.now.rows) (nil_from_length _ (c.is_empty.ensures.empty.0 c.if-is_empty.true)) in
    own_lacks c.args.cx.now.rows (arguments c.args.cx.now.rows (g.S.SliceLike.items c.args.cx.now.rows c.args.args)) c.args.binders_passed const_sort (const_entry c.args.bound_const) c.args.index c.in-None.ensures _ none

pub returns-else-is_empty-clause-result : goal.returns-else-is_empty-clause-result
returns-else-is_empty-clause-result g c =
    let args = arguments c.args.cx.now.rows (g.S.SliceLike.items c.args.cx.now.rows c.args.args) in
    own_put c.args.cx.now.rows args c.args.binders_passed const_sort (const_entry c.args.bound_const) c.args.index c.in-None.ensures _ c.const_argument.new.cx.rows const_shape _ _ _ _ c.const_argument.result
    (rw (c.as_u32.ensures.number, c.var.ensures) at (c.const_argument.ensures.result []))
