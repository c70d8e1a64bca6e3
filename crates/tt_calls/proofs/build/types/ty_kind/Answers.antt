use Rattle.tt_kinds.specs.Kinds.{ty_kind_shape}
use Rattle.tt_calls.specs.CallForm.{ty_call_form}
use Rattle.tt_calls.specs.Told.{told_all, HasFullTable}
use Rattle.tt_calls.specs.Means.{number_at}
use Rattle.tt_calls.specs.Parts.{any_ids, named_parts, named_vars, named_text}
use Rattle.tt_calls.proofs.FormLaws.{made-kind, made-room, made-unbuilt, no-object}
use Rattle.tt_calls.proofs.build.types.ty_kind.Goals as goal

pub built_kind-requires : goal.built_kind-requires
built_kind-requires c = record { form = no-object any_ids c.args.call.now c.in_default.not-Dynamic; sorts = rw (← c.ty_parts.ensures any_ids) c.in-Ok.ensures.built.ok.sorts }

pub returns-in-Err-clause-kind : goal.returns-in-Err-clause-kind
returns-in-Err-clause-kind c =
    let e = told_all c.args.cx.now.rows c.args.earlier.now in
    let form = ty_call_form (number_at e) c.args.call.now in
    record { ok = tt; err = made-unbuilt (HasFullTable c.build.new.cx) e form (named_parts c.ty_parts.result) c.in-Err.refusal (c.ty_parts.ensures (number_at e)) c.in-Err.ensures.built.err }

pub returns-in-Err-clause-room : goal.returns-in-Err-clause-room
returns-in-Err-clause-room c =
    let e = told_all c.args.cx.now.rows c.args.earlier.now in
    made-room c.build.new.cx.rows e (ty_call_form (number_at e) c.args.call.now) (named_parts c.ty_parts.result) (named_vars (number_at e) c.ty_vars.result) (named_text c.ty_text.result) c.in-Err.refusal
    c.in-Err.ensures.room (c.ty_parts.ensures (number_at e)) (c.ty_vars.ensures (number_at e)) (c.ty_text.ensures (number_at e))

pub returns-in-Ok-clause-kind : goal.returns-in-Ok-clause-kind
returns-in-Ok-clause-kind c =
    let e = told_all c.args.cx.now.rows c.args.earlier.now in
    record {
      ok = made-kind c.build.new.cx e (ty_call_form (number_at e) c.args.call.now) (named_parts c.ty_parts.result) (named_vars (number_at e) c.ty_vars.result) (named_text c.ty_text.result) c.in-Ok.built
          (ty_kind_shape c.built_kind.result) c.in-Ok.ensures.built.ok (c.ty_parts.ensures (number_at e)) (c.ty_vars.ensures (number_at e)) (c.ty_text.ensures (number_at e))
          (c.built_kind.ensures.form (number_at e)) (c.built_kind.ensures.kind c.args.cx.now.rows);
      err = tt;
    }
