use Rattle.std.proofs.Common.{Some, map, refl, ap}
use Rattle.tt_kinds.specs.Kinds.{predicate_kind_shape}
use Rattle.tt_kinds.specs.declared.table.Table.TheVariants.{Predicates}
use Rattle.tt_interner.specs.Rows.{predicate_row}
use Rattle.tt_interner.proofs.Growth.{Extends-trans}
use Rattle.tt_calls.specs.declared.answer.Answer.TheVariants as answer
use Rattle.tt_calls.specs.declared.call.Call.TheVariants as call
use Rattle.tt_calls.specs.CallForm.{predicate_ids, predicate_call_form, variable_kind, form_positions, IsFormTooDeep}
use Rattle.tt_calls.specs.Told.{told_all, setting, HasFullTable}
use Rattle.tt_calls.specs.Means.{number_at}
use Rattle.tt_calls.specs.Parts.{any_ids, named_parts, named_vars, named_text}
use Rattle.tt_calls.proofs.PartLaws.{AreTerms-append, AreTerms-second}
use Rattle.tt_calls.proofs.FormLaws.{made-kind, made-room, made-unbuilt}
use Rattle.tt_calls.proofs.BuildLaws.{answer-passed, unbuilt-refused, kind-allowed, kind-refused, there-built}
use Rattle.tt_calls.proofs.BuildLaws.{there-refused}
use Rattle.tt_calls.proofs.build.predicates.build_predicate.Goals as goal

pub predicate_kind-requires : goal.predicate_kind-requires
predicate_kind-requires c = rw (← c.predicate_parts.ensures any_ids) c.in-Ok.ensures.built.ok.sorts

pub mk_predicate-requires : goal.mk_predicate-requires
mk_predicate-requires c =
    let e = told_all c.args.cx.now.rows c.args.earlier.now in
    (made-kind c.build.new.cx e (predicate_call_form (number_at e) c.args.call.now) (named_parts c.predicate_parts.result) (named_vars (number_at e) (Some c.as_slice.result)) (named_text c.predicate_text.result) c.in-Ok.built (predicate_kind_shape c.predicate_kind.result)
    c.in-Ok.ensures.built.ok (c.predicate_parts.ensures (number_at e)) (ap (λ vs. Some (map (variable_kind (number_at e)) vs)) c.as_slice.ensures.value) (c.predicate_text.ensures (number_at e)) (c.predicate_kind.ensures.form (number_at e)) (c.predicate_kind.ensures.kind c.args.cx.now.rows)).parts

pub returns-in_err-predicate-in-Ok-clause-extends : goal.returns-in_err-predicate-in-Ok-clause-extends
returns-in_err-predicate-in-Ok-clause-extends c = Extends-trans c.build.ensures.extends (record { rows = c.mk_predicate.ensures.grows; limit = c.mk_predicate.ensures.limit })

pub returns-in_err-predicate-in-Ok-clause-answers : goal.returns-in_err-predicate-in-Ok-clause-answers
returns-in_err-predicate-in-Ok-clause-answers c = λ ids.
    let e = told_all c.args.cx.now.rows c.args.earlier.now in
    let form = predicate_call_form (number_at e) c.args.call.now in
    let kind = made-kind c.build.new.cx e form (named_parts c.predicate_parts.result) (named_vars (number_at e) (Some c.as_slice.result)) (named_text c.predicate_text.result) c.in-Ok.built (predicate_kind_shape c.predicate_kind.result)
    c.in-Ok.ensures.built.ok (c.predicate_parts.ensures (number_at e)) (ap (λ vs. Some (map (variable_kind (number_at e)) vs)) c.as_slice.ensures.value) (c.predicate_text.ensures (number_at e)) (c.predicate_kind.ensures.form (number_at e)) (c.predicate_kind.ensures.kind c.args.cx.now.rows) in
    answer-passed c.args.cx.now c.mk_predicate.new.self e (call.Predicate c.args.call.now) c.from_residual.result c.in_err-predicate-in-Ok.field-0.0 c.from_residual.ensures.1
    (kind-refused c.args.cx.now c.build.new.cx c.mk_predicate.new.self e (call.Predicate c.args.call.now) form (predicate_row c.predicate_kind.result) kind
    (λ h. h.number) c.in_err-predicate-in-Ok.field-0.0 c.in_err-predicate-in-Ok.ensures tt
    (there-built (λ h. h.number) c.args.cx.now c.build.new.cx c.mk_predicate.new.self c.args.earlier.now form (predicate_row c.predicate_kind.result) c.in_err-predicate-in-Ok.field-0.0 kind c.in_err-predicate-in-Ok.ensures c.are_rows.ensures.are c.build.ensures.extends c.requires) (AreTerms-second e (predicate_ids c.args.call.now) (form_positions form)) (λ d. d))

pub returns-in_ok-predicate-in-Ok-clause-extends : goal.returns-in_ok-predicate-in-Ok-clause-extends
returns-in_ok-predicate-in-Ok-clause-extends c = Extends-trans c.build.ensures.extends (record { rows = c.mk_predicate.ensures.grows; limit = c.mk_predicate.ensures.limit })

pub returns-in_ok-predicate-in-Ok-clause-answers : goal.returns-in_ok-predicate-in-Ok-clause-answers
returns-in_ok-predicate-in-Ok-clause-answers c = λ ids.
    let e = told_all c.args.cx.now.rows c.args.earlier.now in
    let form = predicate_call_form (number_at e) c.args.call.now in
    let kind = made-kind c.build.new.cx e form (named_parts c.predicate_parts.result) (named_vars (number_at e) (Some c.as_slice.result)) (named_text c.predicate_text.result) c.in-Ok.built (predicate_kind_shape c.predicate_kind.result)
    c.in-Ok.ensures.built.ok (c.predicate_parts.ensures (number_at e)) (ap (λ vs. Some (map (variable_kind (number_at e)) vs)) c.as_slice.ensures.value) (c.predicate_text.ensures (number_at e)) (c.predicate_kind.ensures.form (number_at e)) (c.predicate_kind.ensures.kind c.args.cx.now.rows) in
    record {
      owned = c.in_ok-predicate-in-Ok.ensures.in_range;
      ok = kind-allowed c.args.cx.now c.build.new.cx c.mk_predicate.new.self e (call.Predicate c.args.call.now) form (predicate_row c.predicate_kind.result) kind
          (λ h. h.number) c.in_ok-predicate-in-Ok.predicate (answer.Predicate c.in_ok-predicate-in-Ok.predicate) c.in_ok-predicate-in-Ok.ensures refl (λ n d. (AreTerms-append e (predicate_ids c.args.call.now) (form_positions form) ids n, d, refl, refl, λ r x. x));
      err = tt;
    }

pub returns-in-Err-clause-answers : goal.returns-in-Err-clause-answers
returns-in-Err-clause-answers c = λ ids.
    let e = told_all c.args.cx.now.rows c.args.earlier.now in
    let form = predicate_call_form (number_at e) c.args.call.now in
    record {
      owned = tt;
      ok = tt;
      err = unbuilt-refused (setting c.args.cx.now c.build.new.cx) e (call.Predicate c.args.call.now) (form_positions form) (IsFormTooDeep form) c.in-Err.refusal
          tt (there-refused c.args.cx.now c.build.new.cx c.build.new.cx c.build.ensures.extends c.args.earlier.now c.requires c.are_rows-in-Err.ensures.are Predicates form c.in-Err.refusal
          (made-room c.build.new.cx.rows e form (named_parts c.predicate_parts.result) (named_vars (number_at e) (Some c.as_slice.result)) (named_text c.predicate_text.result) c.in-Err.refusal c.in-Err.ensures.room (c.predicate_parts.ensures (number_at e)) (ap (λ vs. Some (map (variable_kind (number_at e)) vs)) c.as_slice.ensures.value) (c.predicate_text.ensures (number_at e))))
          (AreTerms-second e (predicate_ids c.args.call.now) (form_positions form)) (λ d. d) (made-unbuilt (HasFullTable c.build.new.cx) e form (named_parts c.predicate_parts.result) c.in-Err.refusal (c.predicate_parts.ensures (number_at e)) c.in-Err.ensures.built.err);
    }
