-- the list is found or added
use Rattle.std.proofs.Common.{refl, ap}
use Rattle.std.proofs.lemmas.Result.{err_from_is_err_and}
use Rattle.tt_interner.specs.Rows.{existentials_row}
use Rattle.tt_interner.specs.Kept.{tables}
use Rattle.tt_kinds.specs.declared.table.Table.TheVariants.{ExistentialLists}
use Rattle.tt_interner.proofs.InfoLaws.{info_list}
use Rattle.tt_kinds.specs.Kinds.{existential_shape}
use Rattle.tt_kinds.proofs.RangeLaws.{items-fit}
use Rattle.tt_interner.proofs.TableLaws.{entries_by-added}
use Rattle.tt_interner.proofs.PutSteps.{few, put_kept, built, built_refused}
use Rattle.tt_interner.proofs.Keys.{existentials_key}
use Rattle.tt_interner.proofs.interner.Interner.mk_existential_list.Goals as goal

pub find_or_add_list-requires : goal.find_or_add_list-requires
find_or_add_list-requires c = few c.self.inside.order.items (tables c.self.inside) _ _ _ c.self.view_is c.self.invariant (λ k. existentials_row k.items) _ (existentials_row c.args.items.now) (existentials_key (λ k. k.items) c.args.items.now) c.self.inside.existential_lists.entries refl

pub invariant_of-self-2 : goal.invariant_of-self-2
invariant_of-self-2 c = put_kept c.self.inside.order.items (tables c.self.inside) _ _ _ c.self.view_is c.self.invariant (λ k. existentials_row k.items) _ (existentials_row c.args.items.now) (existentials_key (λ k. k.items) c.args.items.now) c.self.inside.existential_lists.entries refl c.items_info-info.result (info_list _ _ ExistentialLists _ c.items_info-info.ensures)
    _ _ refl _ c.in_ok-number.ensures.found _ refl c.in_ok-number.ensures.order (λ none. entries_by-added (λ k. k.items) existentials_row (λ v. v) c.self.inside.existential_lists.entries _ c.args.items.now c.items_info-info.result (c.in_ok-number.ensures.entries none)) c.in_ok-number.ensures.number
    (tt, c.requires) (items-fit existential_shape (λ x. tt) c.args.items.now) tt

pub returns : goal.returns
returns c = built c.self.inside.order.items (tables c.self.inside) _ _ _ c.self.view_is c.self.invariant (λ k. existentials_row k.items) _ (existentials_row c.args.items.now) (existentials_key (λ k. k.items) c.args.items.now) c.self.inside.existential_lists.entries refl c.items_info-info.result (info_list _ _ ExistentialLists _ c.items_info-info.ensures)
    _ _ refl _ c.in_ok-number.ensures.found _ refl c.in_ok-number.ensures.order (λ none. entries_by-added (λ k. k.items) existentials_row (λ v. v) c.self.inside.existential_lists.entries _ c.args.items.now c.items_info-info.result (c.in_ok-number.ensures.entries none)) c.in_ok-number.ensures.number
    (λ list. list.number) c.from_number.result (ap (λ list. list.number) c.from_number.ensures) (λ deep. deep)

pub returns-in_err-number : goal.returns-in_err-number
returns-in_err-number c =
    let p = err_from_is_err_and c.from_residual.result c.from_residual.ensures.1 in
    rw (p.1, p.2) (built_refused c.self.inside.order.items (tables c.self.inside) _ _ _ c.self.view_is c.self.invariant (λ k. existentials_row k.items) _ (existentials_row c.args.items.now) (existentials_key (λ k. k.items) c.args.items.now) c.self.inside.existential_lists.entries refl c.items_info-info.result (info_list _ _ ExistentialLists _ c.items_info-info.ensures)
    _ _ refl _ c.in_err-number.ensures.found _ refl c.in_err-number.ensures.order_stays c.in_err-number.ensures.entries_stay c.in_err-number.ensures.cause c.in_err-number.ensures.full
    (λ list. list.number) (λ deep. deep))
