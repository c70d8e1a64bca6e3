use Rattle.std.proofs.Common.{refl}
use Rattle.tt_kinds.specs.declared.table.Table.TheVariants.{Types}
use Rattle.tt_interner.specs.Rows.{type_row}
use Rattle.tt_interner.proofs.Growth.{Extends-trans}
use Rattle.tt_calls.specs.declared.answer.Answer.TheVariants as answer
use Rattle.tt_calls.specs.declared.call.Call.TheVariants as call
use Rattle.tt_calls.specs.CallForm.{ty_ids, ty_call_form, form_positions, IsFormTooDeep}
use Rattle.tt_calls.specs.Told.{told_all, setting}
use Rattle.tt_calls.specs.Means.{number_at}
use Rattle.tt_calls.proofs.PartLaws.{AreTerms-append, AreTerms-second}
use Rattle.tt_calls.proofs.BuildLaws.{answer-passed, unbuilt-refused, kind-allowed, kind-refused, there-built}
use Rattle.tt_calls.proofs.BuildLaws.{there-refused}
use Rattle.tt_calls.proofs.build.types.build_ty.Goals as goal

pub returns-in_err-ty-in-Ok-clause-extends : goal.returns-in_err-ty-in-Ok-clause-extends
returns-in_err-ty-in-Ok-clause-extends c = Extends-trans c.ty_kind.ensures.extends (record { rows = c.mk_ty.ensures.grows; limit = c.mk_ty.ensures.limit })

pub returns-in_err-ty-in-Ok-clause-answers : goal.returns-in_err-ty-in-Ok-clause-answers
returns-in_err-ty-in-Ok-clause-answers c = λ ids.
    let e = told_all c.args.cx.now.rows c.args.earlier.now in
    let form = ty_call_form (number_at e) c.args.call.now in
    answer-passed c.args.cx.now c.mk_ty.new.self e (call.Ty c.args.call.now) c.from_residual.result c.in_err-ty-in-Ok.field-0.0 c.from_residual.ensures.1
    (kind-refused c.args.cx.now c.ty_kind.new.cx c.mk_ty.new.self e (call.Ty c.args.call.now) form (type_row c.in-Ok.kind) c.in-Ok.ensures.kind.ok
    (λ h. h.number) c.in_err-ty-in-Ok.field-0.0 c.in_err-ty-in-Ok.ensures tt
    (there-built (λ h. h.number) c.args.cx.now c.ty_kind.new.cx c.mk_ty.new.self c.args.earlier.now form (type_row c.in-Ok.kind) c.in_err-ty-in-Ok.field-0.0 c.in-Ok.ensures.kind.ok c.in_err-ty-in-Ok.ensures c.are_rows.ensures.are c.ty_kind.ensures.extends c.requires) (AreTerms-second e (ty_ids c.args.call.now) (form_positions form)) (λ d. d))

pub returns-in_ok-ty-in-Ok-clause-extends : goal.returns-in_ok-ty-in-Ok-clause-extends
returns-in_ok-ty-in-Ok-clause-extends c = Extends-trans c.ty_kind.ensures.extends (record { rows = c.mk_ty.ensures.grows; limit = c.mk_ty.ensures.limit })

pub returns-in_ok-ty-in-Ok-clause-answers : goal.returns-in_ok-ty-in-Ok-clause-answers
returns-in_ok-ty-in-Ok-clause-answers c = λ ids.
    let e = told_all c.args.cx.now.rows c.args.earlier.now in
    let form = ty_call_form (number_at e) c.args.call.now in
    record {
      owned = c.in_ok-ty-in-Ok.ensures.in_range;
      ok = kind-allowed c.args.cx.now c.ty_kind.new.cx c.mk_ty.new.self e (call.Ty c.args.call.now) form (type_row c.in-Ok.kind) c.in-Ok.ensures.kind.ok
          (λ h. h.number) c.in_ok-ty-in-Ok.ty (answer.Ty c.in_ok-ty-in-Ok.ty) c.in_ok-ty-in-Ok.ensures refl (λ n d. (AreTerms-append e (ty_ids c.args.call.now) (form_positions form) ids n, d, refl, refl, λ r x. x));
      err = tt;
    }

pub returns-in-Err-clause-answers : goal.returns-in-Err-clause-answers
returns-in-Err-clause-answers c = λ ids.
    let e = told_all c.args.cx.now.rows c.args.earlier.now in
    let form = ty_call_form (number_at e) c.args.call.now in
    record {
      owned = tt;
      ok = tt;
      err = unbuilt-refused (setting c.args.cx.now c.ty_kind.new.cx) e (call.Ty c.args.call.now) (form_positions form) (IsFormTooDeep form) _
          tt (there-refused c.args.cx.now c.ty_kind.new.cx c.ty_kind.new.cx c.ty_kind.ensures.extends c.args.earlier.now c.requires c.are_rows-in-Err.ensures.are Types form _ c.in-Err.ensures.room) (AreTerms-second e (ty_ids c.args.call.now) (form_positions form)) (λ d. d) c.in-Err.ensures.kind.err;
    }
