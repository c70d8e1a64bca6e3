-- the list is found or added
use Rattle.std.proofs.Common.{refl, ap}
use Rattle.std.proofs.lemmas.Result.{err_from_is_err_and}
use Rattle.tt_interner.specs.Rows.{tys_row}
use Rattle.tt_interner.specs.Kept.{tables}
use Rattle.tt_kinds.specs.declared.table.Table.TheVariants.{TypeLists}
use Rattle.tt_interner.proofs.InfoLaws.{info_list}
use Rattle.tt_kinds.specs.Kinds.{ty_shape}
use Rattle.tt_kinds.proofs.RangeLaws.{items-fit}
use Rattle.tt_interner.proofs.TableLaws.{entries_by-added}
use Rattle.tt_interner.proofs.PutSteps.{few, same, put_kept, built, built_refused}
use Rattle.tt_interner.proofs.Keys.{tys_key}
use Rattle.tt_interner.proofs.interner.Interner.mk_tys.Goals as goal

pub find_or_add_tys-requires-clause-few : goal.find_or_add_tys-requires-clause-few
find_or_add_tys-requires-clause-few c = few c.self.inside.order.items (tables c.self.inside) _ _ _ c.self.view_is c.self.invariant (λ k. tys_row k.items) _ (tys_row c.args.items.now) (tys_key (λ k. k.items) c.args.items.now) c.self.inside.type_lists.entries refl

pub find_or_add_tys-requires-clause-same : goal.find_or_add_tys-requires-clause-same
find_or_add_tys-requires-clause-same c = same c.self.inside.order.items (tables c.self.inside) _ _ _ c.self.view_is c.self.invariant (λ k. tys_row k.items) _ (tys_row c.args.items.now) (tys_key (λ k. k.items) c.args.items.now) c.self.inside.type_lists.entries refl c.items_info-info.result (info_list _ _ TypeLists _ c.items_info-info.ensures) refl

pub invariant_of-self-2 : goal.invariant_of-self-2
invariant_of-self-2 c = put_kept c.self.inside.order.items (tables c.self.inside) _ _ _ c.self.view_is c.self.invariant (λ k. tys_row k.items) _ (tys_row c.args.items.now) (tys_key (λ k. k.items) c.args.items.now) c.self.inside.type_lists.entries refl c.items_info-info.result (info_list _ _ TypeLists _ c.items_info-info.ensures)
    _ _ refl _ c.in_ok-number.ensures.found _ refl c.in_ok-number.ensures.order (λ none. entries_by-added (λ k. k.items) tys_row (λ v. v) c.self.inside.type_lists.entries _ c.args.items.now c.items_info-info.result (c.in_ok-number.ensures.entries none)) c.in_ok-number.ensures.number
    (tt, c.requires) (items-fit ty_shape (λ x. tt) c.args.items.now) tt

pub returns : goal.returns
returns c = built c.self.inside.order.items (tables c.self.inside) _ _ _ c.self.view_is c.self.invariant (λ k. tys_row k.items) _ (tys_row c.args.items.now) (tys_key (λ k. k.items) c.args.items.now) c.self.inside.type_lists.entries refl c.items_info-info.result (info_list _ _ TypeLists _ c.items_info-info.ensures)
    _ _ refl _ c.in_ok-number.ensures.found _ refl c.in_ok-number.ensures.order (λ none. entries_by-added (λ k. k.items) tys_row (λ v. v) c.self.inside.type_lists.entries _ c.args.items.now c.items_info-info.result (c.in_ok-number.ensures.entries none)) c.in_ok-number.ensures.number
    (λ list. list.number) c.from_number.result (ap (λ list. list.number) c.from_number.ensures) (λ deep. deep)

pub returns-in_err-number : goal.returns-in_err-number
returns-in_err-number c =
    let p = err_from_is_err_and c.from_residual.result c.from_residual.ensures.1 in
    rw (p.1, p.2) (built_refused c.self.inside.order.items (tables c.self.inside) _ _ _ c.self.view_is c.self.invariant (λ k. tys_row k.items) _ (tys_row c.args.items.now) (tys_key (λ k. k.items) c.args.items.now) c.self.inside.type_lists.entries refl c.items_info-info.result (info_list _ _ TypeLists _ c.items_info-info.ensures)
    _ _ refl _ c.in_err-number.ensures.found _ refl c.in_err-number.ensures.order_stays c.in_err-number.ensures.entries_stay c.in_err-number.ensures.cause c.in_err-number.ensures.full
    (λ list. list.number) (λ deep. deep))
