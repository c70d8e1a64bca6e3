-- it is found or added
use Rattle.std.proofs.Common.{refl, ap, ◌∙◌}
use Rattle.std.proofs.lemmas.Result.{err_from_is_err_and}
use Rattle.tt_interner.specs.Rows.{existential_row}
use Rattle.tt_interner.specs.Tables.{entries_by}
use Rattle.tt_interner.specs.Kept.{tables}
use Rattle.tt_interner.proofs.TableLaws.{entries_by-push}
use Rattle.tt_interner.proofs.PutSteps.{few, same, put_kept, built, built_refused}
use Rattle.tt_interner.proofs.Keys.{existential_key}
use Rattle.tt_interner.proofs.interner.Interner.mk_existential.Goals as goal

pub find_or_add-requires-clause-few : goal.find_or_add-requires-clause-few
find_or_add-requires-clause-few c = few c.self.inside.order.items (tables c.self.inside) _ _ _ c.self.view_is c.self.invariant existential_row _ (existential_row c.args.kind) (existential_key c.args.kind) c.self.inside.existentials.entries refl

pub find_or_add-requires-clause-same : goal.find_or_add-requires-clause-same
find_or_add-requires-clause-same c = same c.self.inside.order.items (tables c.self.inside) _ _ _ c.self.view_is c.self.invariant existential_row _ (existential_row c.args.kind) (existential_key c.args.kind) c.self.inside.existentials.entries refl c.kind_info-info.result c.kind_info-info.ensures.info refl

pub invariant_of-self-2 : goal.invariant_of-self-2
invariant_of-self-2 c = put_kept c.self.inside.order.items (tables c.self.inside) _ _ _ c.self.view_is c.self.invariant existential_row _ (existential_row c.args.kind) (existential_key c.args.kind) c.self.inside.existentials.entries refl c.kind_info-info.result c.kind_info-info.ensures.info
    _ _ refl _ c.in_ok-number.ensures.found _ refl c.in_ok-number.ensures.order (λ none. ap (entries_by existential_row (λ v. v)) (c.in_ok-number.ensures.entries none) ∙ entries_by-push existential_row (λ v. v) c.self.inside.existentials.entries c.args.kind c.kind_info-info.result) c.in_ok-number.ensures.number
    c.requires c.kind_info-info.ensures.fit tt

pub returns : goal.returns
returns c = built c.self.inside.order.items (tables c.self.inside) _ _ _ c.self.view_is c.self.invariant existential_row _ (existential_row c.args.kind) (existential_key c.args.kind) c.self.inside.existentials.entries refl c.kind_info-info.result c.kind_info-info.ensures.info
    _ _ refl _ c.in_ok-number.ensures.found _ refl c.in_ok-number.ensures.order (λ none. ap (entries_by existential_row (λ v. v)) (c.in_ok-number.ensures.entries none) ∙ entries_by-push existential_row (λ v. v) c.self.inside.existentials.entries c.args.kind c.kind_info-info.result) c.in_ok-number.ensures.number
    (λ handle. handle.number) c.from_number.result (ap (λ handle. handle.number) c.from_number.ensures) (λ deep. deep)

pub returns-in_err-number : goal.returns-in_err-number
returns-in_err-number c =
    let p = err_from_is_err_and c.from_residual.result c.from_residual.ensures.1 in
    rw (p.1, p.2) (built_refused c.self.inside.order.items (tables c.self.inside) _ _ _ c.self.view_is c.self.invariant existential_row _ (existential_row c.args.kind) (existential_key c.args.kind) c.self.inside.existentials.entries refl c.kind_info-info.result c.kind_info-info.ensures.info
    _ _ refl _ c.in_err-number.ensures.found _ refl c.in_err-number.ensures.order_stays c.in_err-number.ensures.entries_stay c.in_err-number.ensures.cause c.in_err-number.ensures.full
    (λ handle. handle.number) (λ deep. deep))
