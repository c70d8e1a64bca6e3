use Rattle.std.proofs.Common.{◌≡◌, ◌∙◌, length, inl, inr, refl, ap, sym}
use Rattle.std.proofs.lemmas.Result.{err_from_is_err_and}
use Rattle.tt_binder.proofs.FieldLaws.{gives-fields, given-all}
use Rattle.tt_binder.proofs.fields.InternerDataTypes.fields_of.Goals as goal

pub returns-in_err-fields-in-Some : goal.returns-in_err-fields-in-Some
returns-in_err-fields-in-Some c =
    let p = err_from_is_err_and c.from_residual.result c.from_residual.ensures.1 in
    let refused = c.in_err-fields-in-Some.ensures.refused in
    rw (p.1, p.2) (gives-fields c.args.ty c.in-Some.id c.in-Some.args c.args.self.now _ c.args.self.now c.in-Some.ensures.0 c.in-Some.ensures.1 c.are_rows.ensures.are c.listed_fields.ensures.own
    (inr (refused.0, refused.1, refl)))

pub returns-in_err-instantiate_fields-in-Some : goal.returns-in_err-instantiate_fields-in-Some
returns-in_err-instantiate_fields-in-Some c =
    let p = err_from_is_err_and c.from_residual-in_err-instantiate_fields-in-Some.result c.from_residual-in_err-instantiate_fields-in-Some.ensures.1 in
    rw (p.1, p.2) (gives-fields c.args.ty c.in-Some.id c.in-Some.args c.args.self.now _ c.instantiate_fields.new.cx c.in-Some.ensures.0 c.in-Some.ensures.1 c.are_rows.ensures.are c.listed_fields.ensures.own
    (inl (rw (c.deref_mut.ensures.value, c.in_ok-fields-in-Some.ensures.is) at c.in_err-instantiate_fields-in-Some.ensures)))

pub returns : goal.returns
returns c =
    let same : length c.instantiate_fields.new.fields ≡ c.in_ok-fields-in-Some.fields.len = c.instantiate_fields.auto.fields ∙ ap length c.deref_mut.ensures.value ∙ sym c.in_ok-fields-in-Some.fields.ok.0 in
    gives-fields c.args.ty c.in-Some.id c.in-Some.args c.args.self.now _ c.instantiate_fields.new.cx c.in-Some.ensures.0 c.in-Some.ensures.1 c.are_rows.ensures.are c.listed_fields.ensures.own
    (given-all c.in-Some.args _ c.in_ok-fields-in-Some.fields c.instantiate_fields.new.fields c.args.self.now c.instantiate_fields.new.cx same
    (rw (c.deref_mut.ensures.value, c.in_ok-fields-in-Some.ensures.is) at c.in_ok-instantiate_fields-in-Some.ensures))
