-- an entry that is there is the row's entry, and else the new row is the newest
use Rattle.std.proofs.Common.{refl, ap, ◌∙◌}
use Rattle.std.proofs.lemmas.Result.{err_from_is_err_and}
use Rattle.tt_interner.specs.Rows.{type_row}
use Rattle.tt_interner.specs.Tables.{entries_by}
use Rattle.tt_interner.specs.Kept.{tables}
use Rattle.tt_interner.proofs.TableLaws.{entries_by-push}
use Rattle.tt_interner.proofs.PutSteps.{few, same, put_kept, put, put_refused}
use Rattle.tt_interner.proofs.Keys.{type_key}
use Rattle.tt_interner.proofs.interner.Interner.put_ty.Goals as goal

pub find_or_add-requires-clause-few : goal.find_or_add-requires-clause-few
find_or_add-requires-clause-few c = few c.self.inside.order.items (tables c.self.inside) _ _ _ c.self.view_is c.self.invariant type_row _ (type_row c.args.kind.now) (type_key c.args.kind.now) c.self.inside.types.entries refl

pub find_or_add-requires-clause-same : goal.find_or_add-requires-clause-same
find_or_add-requires-clause-same c = same c.self.inside.order.items (tables c.self.inside) _ _ _ c.self.view_is c.self.invariant type_row _ (type_row c.args.kind.now) (type_key c.args.kind.now) c.self.inside.types.entries refl c.ty_kind_info-info.result c.ty_kind_info-info.ensures.info refl

pub invariant_of-self-2 : goal.invariant_of-self-2
invariant_of-self-2 c = put_kept c.self.inside.order.items (tables c.self.inside) _ _ _ c.self.view_is c.self.invariant type_row _ (type_row c.args.kind.now) (type_key c.args.kind.now) c.self.inside.types.entries refl c.ty_kind_info-info.result c.ty_kind_info-info.ensures.info
    _ _ refl _ c.in_ok-number.ensures.found _ refl c.in_ok-number.ensures.order (λ none. ap (entries_by type_row (λ v. v)) (c.in_ok-number.ensures.entries none) ∙ entries_by-push type_row (λ v. v) c.self.inside.types.entries c.args.kind.now c.ty_kind_info-info.result) c.in_ok-number.ensures.number
    c.requires.parts c.ty_kind_info-info.ensures.fit tt

pub returns : goal.returns
returns c = put c.self.inside.order.items (tables c.self.inside) _ _ _ c.self.view_is c.self.invariant type_row _ (type_row c.args.kind.now) (type_key c.args.kind.now) c.self.inside.types.entries refl c.ty_kind_info-info.result c.ty_kind_info-info.ensures.info
    _ _ refl _ c.in_ok-number.ensures.found _ refl c.in_ok-number.ensures.order (λ none. ap (entries_by type_row (λ v. v)) (c.in_ok-number.ensures.entries none) ∙ entries_by-push type_row (λ v. v) c.self.inside.types.entries c.args.kind.now c.ty_kind_info-info.result) c.in_ok-number.ensures.number
    (λ ty. ty.number) c.from_number.result (ap (λ ty. ty.number) c.from_number.ensures)

pub returns-in_err-number : goal.returns-in_err-number
returns-in_err-number c =
    let p = err_from_is_err_and c.from_residual.result c.from_residual.ensures.1 in
    rw (p.1, p.2) (put_refused c.self.inside.order.items (tables c.self.inside) _ _ _ c.self.view_is c.self.invariant type_row _ (type_row c.args.kind.now) (type_key c.args.kind.now) c.self.inside.types.entries refl c.ty_kind_info-info.result c.ty_kind_info-info.ensures.info
    _ _ refl _ c.in_err-number.ensures.found _ refl c.in_err-number.ensures.order_stays c.in_err-number.ensures.entries_stay c.in_err-number.ensures.cause c.in_err-number.ensures.full
    (λ ty. ty.number))
