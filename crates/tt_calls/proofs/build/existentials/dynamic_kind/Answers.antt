use Rattle.std.proofs.Common.{map, inl, inr}
use Rattle.tt_kinds.specs.Kinds.{ty_kind_shape, existentials_shape}
use Rattle.tt_interner.proofs.Growth.{Extends-trans}
use Rattle.tt_calls.specs.CallForm.{existential_call_form, existential_positions, IsExistentialTooDeep, all_positions}
use Rattle.tt_calls.specs.CallForm.{AnyIsDeep, trait_object, form_positions, IsFormTooDeep, IsRegionTooDeep}
use Rattle.tt_calls.specs.Told.{told_all, HasFullTable}
use Rattle.tt_calls.specs.Means.{number_at}
use Rattle.tt_calls.proofs.PartLaws.{kind-passed, dynamic-kind, placed-grows, IsUnbuiltPart-weaker}
use Rattle.tt_calls.proofs.ResultLaws.{passed}
use Rattle.tt_calls.proofs.RoomLaws.{object-room, object-region-room}
use Rattle.tt_calls.proofs.build.existentials.dynamic_kind.Goals as goal

pub returns-in_err-existentials-clause-kind : goal.returns-in_err-existentials-clause-kind
returns-in_err-existentials-clause-kind c =
    let e = told_all c.args.cx.now.rows c.args.earlier.now in
    let forms = map (existential_call_form (number_at e)) c.args.existentials.now in
    let form = trait_object forms c.args.region.now in
    kind-passed c.build_existentials.new.cx e form ty_kind_shape c.from_residual.result c.in_err-existentials.field-0.0 c.from_residual.ensures.1
    (IsUnbuiltPart-weaker (HasFullTable c.build_existentials.new.cx) e e (all_positions existential_positions forms) (form_positions form) (AnyIsDeep IsExistentialTooDeep forms) (IsFormTooDeep form) c.in_err-existentials.field-0.0
    (λ n. n) inl c.in_err-existentials.ensures.list.err)

pub returns-in_err-region-clause-extends : goal.returns-in_err-region-clause-extends
returns-in_err-region-clause-extends c = Extends-trans c.build_existentials.ensures.extends c.build_region.ensures.extends

pub returns-in_err-region-clause-kind : goal.returns-in_err-region-clause-kind
returns-in_err-region-clause-kind c =
    let e = told_all c.args.cx.now.rows c.args.earlier.now in
    let form = trait_object (map (existential_call_form (number_at (told_all c.args.cx.now.rows c.args.earlier.now))) c.args.existentials.now) c.args.region.now in
    kind-passed c.build_region.new.cx e form ty_kind_shape c.from_residual-in_err-region.result c.in_err-region.field-0.0 c.from_residual-in_err-region.ensures.1
    (IsUnbuiltPart-weaker (HasFullTable c.build_region.new.cx) _ e _ (form_positions form) (IsRegionTooDeep c.args.region.now) (IsFormTooDeep form) c.in_err-region.field-0.0 (λ n. tt) inr (c.in_err-region.ensures.region c.args.cx.now.rows).err)

pub returns-clause-extends : goal.returns-clause-extends
returns-clause-extends c = Extends-trans c.build_existentials.ensures.extends c.build_region.ensures.extends

pub returns-clause-kind : goal.returns-clause-kind
returns-clause-kind c = record {
  ok = dynamic-kind c.build_region.new.cx (told_all c.args.cx.now.rows c.args.earlier.now) (map (existential_call_form (number_at (told_all c.args.cx.now.rows c.args.earlier.now))) c.args.existentials.now) c.args.region.now (existentials_shape c.in_ok-existentials.existentials) c.in_ok-region.region
      (placed-grows c.build_existentials.new.cx c.build_region.new.cx c.build_region.ensures.extends c.in_ok-existentials.ensures.list.ok) (c.in_ok-region.ensures.region c.args.cx.now.rows).ok;
  err = tt;
}

pub returns-in_err-existentials-clause-room : goal.returns-in_err-existentials-clause-room
returns-in_err-existentials-clause-room c =
    let e = told_all c.args.cx.now.rows c.args.earlier.now in
    let r = c.in_err-existentials in
    passed c.from_residual.result r.field-0.0 _ c.from_residual.ensures.1
    (object-room c.build_existentials.new.cx.rows e (map (existential_call_form (number_at e)) c.args.existentials.now) c.args.region.now r.field-0.0 r.ensures.room)

pub returns-in_err-region-clause-room : goal.returns-in_err-region-clause-room
returns-in_err-region-clause-room c =
    let e = told_all c.args.cx.now.rows c.args.earlier.now in
    let r = c.in_err-region in
    passed c.from_residual-in_err-region.result r.field-0.0 _ c.from_residual-in_err-region.ensures.1
    (object-region-room c.build_region.new.cx.rows e (map (existential_call_form (number_at e)) c.args.existentials.now) c.args.region.now r.field-0.0 r.ensures.room)
