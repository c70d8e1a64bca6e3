use Rattle.std.proofs.Common.{refl, sym, None}
use Rattle.tt_kinds.specs.Kinds.{pattern_kind_shape}
use Rattle.tt_kinds.specs.declared.table.Table.TheVariants.{Patterns}
use Rattle.tt_interner.specs.Rows.{pat_row}
use Rattle.tt_interner.proofs.Growth.{Extends-trans}
use Rattle.tt_calls.specs.declared.answer.Answer.TheVariants as answer
use Rattle.tt_calls.specs.declared.call.Call.TheVariants as call
use Rattle.tt_calls.specs.CallForm.{pat_call_form, form_positions, IsFormTooDeep}
use Rattle.tt_calls.specs.Told.{told_all, setting, HasFullTable}
use Rattle.tt_calls.specs.Parts.{named_parts}
use Rattle.tt_calls.proofs.FormLaws.{made-kind, made-room, made-unbuilt}
use Rattle.tt_calls.proofs.BuildLaws.{answer-passed, unbuilt-refused, kind-allowed, kind-refused, there-built}
use Rattle.tt_calls.proofs.BuildLaws.{there-refused}
use Rattle.tt_calls.proofs.build.patterns.build_pat.Goals as goal

pub pat_kind-requires : goal.pat_kind-requires
pat_kind-requires c = rw (← c.pat_parts.ensures.parts) c.in-Ok.ensures.built.ok.sorts

pub mk_pat-requires : goal.mk_pat-requires
mk_pat-requires c =
    (made-kind c.build.new.cx (told_all c.args.cx.now.rows c.args.earlier.now) (pat_call_form c.args.call.now) (named_parts c.pat_parts.result) None None c.in-Ok.built (pattern_kind_shape c.pat_kind.result)
    c.in-Ok.ensures.built.ok c.pat_parts.ensures.parts (sym c.pat_parts.ensures.vars) (sym c.pat_parts.ensures.text) c.pat_kind.ensures.form c.pat_kind.ensures.kind).parts

pub returns-in_err-pat-in-Ok-clause-extends : goal.returns-in_err-pat-in-Ok-clause-extends
returns-in_err-pat-in-Ok-clause-extends c = Extends-trans c.build.ensures.extends (record { rows = c.mk_pat.ensures.grows; limit = c.mk_pat.ensures.limit })

pub returns-in_err-pat-in-Ok-clause-answers : goal.returns-in_err-pat-in-Ok-clause-answers
returns-in_err-pat-in-Ok-clause-answers c =
    let e = told_all c.args.cx.now.rows c.args.earlier.now in
    let form = pat_call_form c.args.call.now in
    let kind = made-kind c.build.new.cx e form (named_parts c.pat_parts.result) None None c.in-Ok.built (pattern_kind_shape c.pat_kind.result)
    c.in-Ok.ensures.built.ok c.pat_parts.ensures.parts (sym c.pat_parts.ensures.vars) (sym c.pat_parts.ensures.text) c.pat_kind.ensures.form c.pat_kind.ensures.kind in
    answer-passed c.args.cx.now c.mk_pat.new.self e (call.Pat c.args.call.now) c.from_residual.result c.in_err-pat-in-Ok.field-0.0 c.from_residual.ensures.1
    (kind-refused c.args.cx.now c.build.new.cx c.mk_pat.new.self e (call.Pat c.args.call.now) form (pat_row c.pat_kind.result) kind
    (λ h. h.number) c.in_err-pat-in-Ok.field-0.0 c.in_err-pat-in-Ok.ensures tt
    (there-built (λ h. h.number) c.args.cx.now c.build.new.cx c.mk_pat.new.self c.args.earlier.now form (pat_row c.pat_kind.result) c.in_err-pat-in-Ok.field-0.0 kind c.in_err-pat-in-Ok.ensures c.are_rows.ensures.are c.build.ensures.extends c.requires) (λ n. n) (λ d. d))

pub returns-in_ok-pat-in-Ok-clause-extends : goal.returns-in_ok-pat-in-Ok-clause-extends
returns-in_ok-pat-in-Ok-clause-extends c = Extends-trans c.build.ensures.extends (record { rows = c.mk_pat.ensures.grows; limit = c.mk_pat.ensures.limit })

pub returns-in_ok-pat-in-Ok-clause-answers : goal.returns-in_ok-pat-in-Ok-clause-answers
returns-in_ok-pat-in-Ok-clause-answers c =
    let e = told_all c.args.cx.now.rows c.args.earlier.now in
    let form = pat_call_form c.args.call.now in
    let kind = made-kind c.build.new.cx e form (named_parts c.pat_parts.result) None None c.in-Ok.built (pattern_kind_shape c.pat_kind.result)
    c.in-Ok.ensures.built.ok c.pat_parts.ensures.parts (sym c.pat_parts.ensures.vars) (sym c.pat_parts.ensures.text) c.pat_kind.ensures.form c.pat_kind.ensures.kind in
    record {
      owned = c.in_ok-pat-in-Ok.ensures.in_range;
      ok = kind-allowed c.args.cx.now c.build.new.cx c.mk_pat.new.self e (call.Pat c.args.call.now) form (pat_row c.pat_kind.result) kind
          (λ h. h.number) c.in_ok-pat-in-Ok.pat (answer.Pat c.in_ok-pat-in-Ok.pat) c.in_ok-pat-in-Ok.ensures refl (λ n d. (n, d, refl, refl, λ r x. x));
      err = tt;
    }

pub returns-in-Err-clause-answers : goal.returns-in-Err-clause-answers
returns-in-Err-clause-answers c =
    let e = told_all c.args.cx.now.rows c.args.earlier.now in
    let form = pat_call_form c.args.call.now in
    record {
      owned = tt;
      ok = tt;
      err = unbuilt-refused (setting c.args.cx.now c.build.new.cx) e (call.Pat c.args.call.now) (form_positions form) (IsFormTooDeep form) c.in-Err.refusal
          tt (there-refused c.args.cx.now c.build.new.cx c.build.new.cx c.build.ensures.extends c.args.earlier.now c.requires c.are_rows-in-Err.ensures.are Patterns form c.in-Err.refusal
          (made-room c.build.new.cx.rows e form (named_parts c.pat_parts.result) None None c.in-Err.refusal c.in-Err.ensures.room c.pat_parts.ensures.parts (sym c.pat_parts.ensures.vars) (sym c.pat_parts.ensures.text)))
          (λ n. n) (λ d. d) (made-unbuilt (HasFullTable c.build.new.cx) e form (named_parts c.pat_parts.result) c.in-Err.refusal c.pat_parts.ensures.parts c.in-Err.ensures.built.err);
    }
