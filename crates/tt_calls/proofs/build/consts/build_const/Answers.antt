use Rattle.std.proofs.Common.{refl, sym, None}
use Rattle.tt_kinds.specs.Kinds.{const_kind_shape}
use Rattle.tt_kinds.specs.declared.table.Table.TheVariants.{Consts}
use Rattle.tt_interner.specs.Rows.{const_row}
use Rattle.tt_interner.proofs.Growth.{Extends-trans}
use Rattle.tt_calls.specs.declared.answer.Answer.TheVariants as answer
use Rattle.tt_calls.specs.declared.call.Call.TheVariants as call
use Rattle.tt_calls.specs.CallForm.{const_ids, const_call_form, form_positions, IsFormTooDeep}
use Rattle.tt_calls.specs.Told.{told_all, setting, HasFullTable}
use Rattle.tt_calls.specs.Means.{number_at}
use Rattle.tt_calls.specs.Parts.{any_ids, named_parts, named_text}
use Rattle.tt_calls.proofs.PartLaws.{AreTerms-append, AreTerms-second}
use Rattle.tt_calls.proofs.FormLaws.{made-kind, made-room, made-unbuilt}
use Rattle.tt_calls.proofs.BuildLaws.{answer-passed, unbuilt-refused, kind-allowed, kind-refused, there-built}
use Rattle.tt_calls.proofs.BuildLaws.{there-refused}
use Rattle.tt_calls.proofs.build.consts.build_const.Goals as goal

pub const_kind-requires : goal.const_kind-requires
const_kind-requires c = rw (← c.const_parts.ensures.parts any_ids) c.in-Ok.ensures.built.ok.sorts

pub mk_const-requires : goal.mk_const-requires
mk_const-requires c =
    let e = told_all c.args.cx.now.rows c.args.earlier.now in
    (made-kind c.build.new.cx e (const_call_form (number_at e) c.args.call.now) (named_parts c.const_parts.result) None (named_text c.const_text.result) c.in-Ok.built (const_kind_shape c.const_kind.result)
    c.in-Ok.ensures.built.ok (c.const_parts.ensures.parts (number_at e)) (sym (c.const_parts.ensures.vars (number_at e))) (c.const_text.ensures (number_at e)) (c.const_kind.ensures.form (number_at e)) (c.const_kind.ensures.kind c.args.cx.now.rows)).parts

pub returns-in_err-constant-in-Ok-clause-extends : goal.returns-in_err-constant-in-Ok-clause-extends
returns-in_err-constant-in-Ok-clause-extends c = Extends-trans c.build.ensures.extends (record { rows = c.mk_const.ensures.grows; limit = c.mk_const.ensures.limit })

pub returns-in_err-constant-in-Ok-clause-answers : goal.returns-in_err-constant-in-Ok-clause-answers
returns-in_err-constant-in-Ok-clause-answers c = λ ids.
    let e = told_all c.args.cx.now.rows c.args.earlier.now in
    let form = const_call_form (number_at e) c.args.call.now in
    let kind = made-kind c.build.new.cx e form (named_parts c.const_parts.result) None (named_text c.const_text.result) c.in-Ok.built (const_kind_shape c.const_kind.result)
    c.in-Ok.ensures.built.ok (c.const_parts.ensures.parts (number_at e)) (sym (c.const_parts.ensures.vars (number_at e))) (c.const_text.ensures (number_at e)) (c.const_kind.ensures.form (number_at e)) (c.const_kind.ensures.kind c.args.cx.now.rows) in
    answer-passed c.args.cx.now c.mk_const.new.self e (call.Const c.args.call.now) c.from_residual.result c.in_err-constant-in-Ok.field-0.0 c.from_residual.ensures.1
    (kind-refused c.args.cx.now c.build.new.cx c.mk_const.new.self e (call.Const c.args.call.now) form (const_row c.const_kind.result) kind
    (λ h. h.number) c.in_err-constant-in-Ok.field-0.0 c.in_err-constant-in-Ok.ensures tt
    (there-built (λ h. h.number) c.args.cx.now c.build.new.cx c.mk_const.new.self c.args.earlier.now form (const_row c.const_kind.result) c.in_err-constant-in-Ok.field-0.0 kind c.in_err-constant-in-Ok.ensures c.are_rows.ensures.are c.build.ensures.extends c.requires) (AreTerms-second e (const_ids c.args.call.now) (form_positions form)) (λ d. d))

pub returns-in_ok-constant-in-Ok-clause-extends : goal.returns-in_ok-constant-in-Ok-clause-extends
returns-in_ok-constant-in-Ok-clause-extends c = Extends-trans c.build.ensures.extends (record { rows = c.mk_const.ensures.grows; limit = c.mk_const.ensures.limit })

pub returns-in_ok-constant-in-Ok-clause-answers : goal.returns-in_ok-constant-in-Ok-clause-answers
returns-in_ok-constant-in-Ok-clause-answers c = λ ids.
    let e = told_all c.args.cx.now.rows c.args.earlier.now in
    let form = const_call_form (number_at e) c.args.call.now in
    let kind = made-kind c.build.new.cx e form (named_parts c.const_parts.result) None (named_text c.const_text.result) c.in-Ok.built (const_kind_shape c.const_kind.result)
    c.in-Ok.ensures.built.ok (c.const_parts.ensures.parts (number_at e)) (sym (c.const_parts.ensures.vars (number_at e))) (c.const_text.ensures (number_at e)) (c.const_kind.ensures.form (number_at e)) (c.const_kind.ensures.kind c.args.cx.now.rows) in
    record {
      owned = c.in_ok-constant-in-Ok.ensures.in_range;
      ok = kind-allowed c.args.cx.now c.build.new.cx c.mk_const.new.self e (call.Const c.args.call.now) form (const_row c.const_kind.result) kind
          (λ h. h.number) c.in_ok-constant-in-Ok.constant (answer.Const c.in_ok-constant-in-Ok.constant) c.in_ok-constant-in-Ok.ensures refl (λ n d. (AreTerms-append e (const_ids c.args.call.now) (form_positions form) ids n, d, refl, refl, λ r x. x));
      err = tt;
    }

pub returns-in-Err-clause-answers : goal.returns-in-Err-clause-answers
returns-in-Err-clause-answers c = λ ids.
    let e = told_all c.args.cx.now.rows c.args.earlier.now in
    let form = const_call_form (number_at e) c.args.call.now in
    record {
      owned = tt;
      ok = tt;
      err = unbuilt-refused (setting c.args.cx.now c.build.new.cx) e (call.Const c.args.call.now) (form_positions form) (IsFormTooDeep form) c.in-Err.refusal
          tt (there-refused c.args.cx.now c.build.new.cx c.build.new.cx c.build.ensures.extends c.args.earlier.now c.requires c.are_rows-in-Err.ensures.are Consts form c.in-Err.refusal
          (made-room c.build.new.cx.rows e form (named_parts c.const_parts.result) None (named_text c.const_text.result) c.in-Err.refusal c.in-Err.ensures.room (c.const_parts.ensures.parts (number_at e)) (sym (c.const_parts.ensures.vars (number_at e))) (c.const_text.ensures (number_at e))))
          (AreTerms-second e (const_ids c.args.call.now) (form_positions form)) (λ d. d) (made-unbuilt (HasFullTable c.build.new.cx) e form (named_parts c.const_parts.result) c.in-Err.refusal (c.const_parts.ensures.parts (number_at e)) c.in-Err.ensures.built.err);
    }
