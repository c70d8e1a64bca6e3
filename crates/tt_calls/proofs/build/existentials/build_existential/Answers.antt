use Rattle.std.proofs.Common.{Some, None, map, ap, sym}
use Rattle.tt_kinds.specs.Label.{existential_label}
use Rattle.tt_kinds.specs.Kinds.{existential_kind_shape}
use Rattle.tt_kinds.specs.Handle.{PolyExistentialPredicate}
use Rattle.tt_interner.specs.Rows.{existential_row}
use Rattle.tt_interner.proofs.Growth.{Extends-trans}
use Rattle.tt_calls.specs.CallForm.{variable_kind}
use Rattle.tt_calls.specs.Told.{told_all, HasFullTable}
use Rattle.tt_calls.specs.Means.{number_at}
use Rattle.tt_calls.specs.Parts.{any_ids, named_parts, named_vars}
use Rattle.tt_calls.proofs.FormLaws.{existential_whole, under-binder, made-kind, made-room, made-unbuilt}
use Rattle.tt_calls.proofs.BuildLaws.{term-placed}
use Rattle.tt_calls.proofs.RoomLaws.{term-room}
use Rattle.tt_calls.proofs.build.existentials.build_existential.Goals as goal

pub existential_kind-kind-requires : goal.existential_kind-kind-requires
existential_kind-kind-requires c = rw (← c.existential_parts.ensures.parts any_ids) c.in-Ok.ensures.built.ok.sorts

pub mk_existential-requires : goal.mk_existential-requires
mk_existential-requires c =
    let e = told_all c.args.cx.now.rows c.args.earlier.now in
    (made-kind c.build.new.cx e (existential_whole (number_at e) c.args.call.now) (named_parts c.existential_parts.result) (named_vars (number_at e) (Some c.as_slice.result)) None c.in-Ok.built
    (existential_kind_shape c.bind_with_vars.result) c.in-Ok.ensures.built.ok
    (c.existential_parts.ensures.parts (number_at e)) (ap (λ vs. Some (map (variable_kind (number_at e)) vs)) c.as_slice.ensures.value) (sym (c.existential_parts.ensures.text (number_at e)))
    (tt, c.existential_kind-kind.ensures.label (number_at e)) (rw (c.bind_with_vars.ensures) (under-binder existential_label c.in-Ok.built.vars.number (c.existential_kind-kind.ensures.kind c.args.cx.now)))).parts

pub returns-in-Ok-clause-extends : goal.returns-in-Ok-clause-extends
returns-in-Ok-clause-extends c = Extends-trans c.build.ensures.extends (record { rows = c.mk_existential.ensures.grows; limit = c.mk_existential.ensures.limit })

pub returns-in-Ok-clause-existential : goal.returns-in-Ok-clause-existential
returns-in-Ok-clause-existential c =
    let e = told_all c.args.cx.now.rows c.args.earlier.now in
    let form = existential_whole (number_at e) c.args.call.now in
    let kind = made-kind c.build.new.cx e form (named_parts c.existential_parts.result) (named_vars (number_at e) (Some c.as_slice.result)) None c.in-Ok.built
    (existential_kind_shape c.bind_with_vars.result) c.in-Ok.ensures.built.ok
    (c.existential_parts.ensures.parts (number_at e)) (ap (λ vs. Some (map (variable_kind (number_at e)) vs)) c.as_slice.ensures.value) (sym (c.existential_parts.ensures.text (number_at e)))
    (tt, c.existential_kind-kind.ensures.label (number_at e)) (rw (c.bind_with_vars.ensures) (under-binder existential_label c.in-Ok.built.vars.number (c.existential_kind-kind.ensures.kind c.args.cx.now))) in
    let given = term-placed (λ (h : PolyExistentialPredicate). h.number) c.build.new.cx c.mk_existential.new.self e form (existential_row c.bind_with_vars.result) c.mk_existential.result kind c.mk_existential.ensures in
    record { ok = given.ok; err = given.err }

pub returns-in-Ok-clause-room : goal.returns-in-Ok-clause-room
returns-in-Ok-clause-room c =
    let e = told_all c.args.cx.now.rows c.args.earlier.now in
    let form = existential_whole (number_at e) c.args.call.now in
    let kind = made-kind c.build.new.cx e form (named_parts c.existential_parts.result) (named_vars (number_at e) (Some c.as_slice.result)) None c.in-Ok.built
    (existential_kind_shape c.bind_with_vars.result) c.in-Ok.ensures.built.ok
    (c.existential_parts.ensures.parts (number_at e)) (ap (λ vs. Some (map (variable_kind (number_at e)) vs)) c.as_slice.ensures.value) (sym (c.existential_parts.ensures.text (number_at e)))
    (tt, c.existential_kind-kind.ensures.label (number_at e)) (rw (c.bind_with_vars.ensures) (under-binder existential_label c.in-Ok.built.vars.number (c.existential_kind-kind.ensures.kind c.args.cx.now))) in
    term-room (λ (h : PolyExistentialPredicate). h.number) c.build.new.cx c.mk_existential.new.self e form (existential_row c.bind_with_vars.result) c.mk_existential.result kind c.mk_existential.ensures

pub returns-in-Err-clause-existential : goal.returns-in-Err-clause-existential
returns-in-Err-clause-existential c =
    let e = told_all c.args.cx.now.rows c.args.earlier.now in
    record { ok = tt; err = made-unbuilt (HasFullTable c.build.new.cx) e (existential_whole (number_at e) c.args.call.now) (named_parts c.existential_parts.result) c.in-Err.refusal (c.existential_parts.ensures.parts (number_at e)) c.in-Err.ensures.built.err }

pub returns-in-Err-clause-room : goal.returns-in-Err-clause-room
returns-in-Err-clause-room c =
    let e = told_all c.args.cx.now.rows c.args.earlier.now in
    made-room c.build.new.cx.rows e (existential_whole (number_at e) c.args.call.now) (named_parts c.existential_parts.result) (named_vars (number_at e) (Some c.as_slice.result)) None c.in-Err.refusal c.in-Err.ensures.room
    (c.existential_parts.ensures.parts (number_at e)) (ap (λ vs. Some (map (variable_kind (number_at e)) vs)) c.as_slice.ensures.value) (sym (c.existential_parts.ensures.text (number_at e)))
