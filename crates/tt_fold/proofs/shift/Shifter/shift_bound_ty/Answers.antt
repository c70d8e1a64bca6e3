use Rattle.std.proofs.Common.{inl, refl}
use Rattle.tt_kinds.specs.Label.{type_sort}
use Rattle.tt_kinds.specs.Bound.{ty_entry}
use Rattle.tt_kinds.specs.declared.table.Table.TheVariants.{Types}
use Rattle.tt_kinds.specs.declared.ty_kind.TyKind.TheVariants as kind
use Rattle.tt_interner.specs.Rows.{meaning, type_row}
use Rattle.tt_fold.proofs.BoundLaws.{bound_built, past_too_far}
use Rattle.tt_fold.proofs.shift.Shifter.shift_bound_ty.Goals as goal

pub returns-in-Ok-clause-result : goal.returns-in-Ok-clause-result
returns-in-Ok-clause-result c =
    bound_built (λ h. h.number) Types (λ j. type_row (kind.Bound j c.args.bound_ty)) type_sort (ty_entry c.args.bound_ty) (λ _. refl) (λ _. refl)
    c.args.cx.now c.mk_ty.new.self (record { amount = c.args.self.now.amount; under = c.args.self.now.current_index }) c.args.index c.in-Ok.shifted _
    c.requires c.in-Ok.ensures tt c.mk_ty.ensures

pub returns-in-Err-clause-result : goal.returns-in-Err-clause-result
returns-in-Err-clause-result c =
    inl (c.in-Err.ensures.0, past_too_far (meaning c.args.cx.now.rows) (record { amount = c.args.self.now.amount; under = c.args.self.now.current_index }) type_sort c.args.index (ty_entry c.args.bound_ty) c.in-Err.ensures.1)
