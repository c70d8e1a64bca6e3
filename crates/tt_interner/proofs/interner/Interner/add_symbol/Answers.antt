-- the new row is the newest
use Rattle.std.proofs.Common.{sym, ap, refl, subst, ◌∙◌}
use Rattle.std.specs.String.{string_bytes}
use Rattle.std.proofs.lemmas.Result.{err_from_is_err_and}
use Rattle.tt_kinds.specs.declared.table.Table.TheVariants.{Symbols}
use Rattle.tt_interner.specs.Rows.{text_row, IsNew}
use Rattle.tt_interner.specs.Tables.{no_info, with_entries, entries_by}
use Rattle.tt_interner.specs.Kept.{tables}
use Rattle.tt_kinds.specs.Label.{text_label}
use Rattle.tt_interner.proofs.InfoLaws.{info_node}
use Rattle.tt_interner.proofs.TableLaws.{count, not_there, entries_by-added, kept, added, refused}
use Rattle.tt_interner.proofs.Keys.{text_key}
use Rattle.tt_interner.proofs.interner.Interner.add_symbol.Goals as goal

pub add_text-requires : goal.add_text-requires
add_text-requires c = not_there _ _ _ c.self.invariant.tables Symbols (λ k. text_row (string_bytes k)) (λ v. no_info) c.self.inside.symbols.entries refl _ (text_row c.args.text.now) refl (text_key (λ k. string_bytes k) c.args.text.now)
    (subst (λ v. IsNew (text_row c.args.text.now) v.rows) (sym c.self.view_is) c.requires)

pub invariant_of-self-2 : goal.invariant_of-self-2
invariant_of-self-2 c =
    let many = count _ _ _ c.self.invariant.tables Symbols (λ k. text_row (string_bytes k)) (λ v. no_info) c.self.inside.symbols.entries refl in
    let is = ap (with_entries (tables c.self.inside) Symbols) (entries_by-added (λ k. string_bytes k) text_row (λ v. no_info) c.self.inside.symbols.entries _ c.args.text.now tt c.in_ok-number.ensures.entries) in
    kept c.self.inside.order.items _ (tables c.self.inside) _ _ _ _ c.self.view_is c.self.invariant _ is c.in_ok-number.ensures.order _ (c.in_ok-number.ensures.number.0 ∙ many) c.in_ok-number.ensures.number.1
    (tt, tt) tt tt c.requires (info_node _ _ (text_label c.args.text.now) refl)

pub returns : goal.returns
returns c =
    let many = count _ _ _ c.self.invariant.tables Symbols (λ k. text_row (string_bytes k)) (λ v. no_info) c.self.inside.symbols.entries refl in
    let is = ap (with_entries (tables c.self.inside) Symbols) (entries_by-added (λ k. string_bytes k) text_row (λ v. no_info) c.self.inside.symbols.entries _ c.args.text.now tt c.in_ok-number.ensures.entries) in
    added c.self.inside.order.items _ (tables c.self.inside) _ _ _ _ c.self.view_is c.self.invariant _ is c.in_ok-number.ensures.order _ (c.in_ok-number.ensures.number.0 ∙ many) c.in_ok-number.ensures.number.1
    (λ symbol. symbol.number) c.from_number.result (ap (λ symbol. symbol.number) c.from_number.ensures)

pub returns-in_err-number : goal.returns-in_err-number
returns-in_err-number c =
    let many = count _ _ _ c.self.invariant.tables Symbols (λ k. text_row (string_bytes k)) (λ v. no_info) c.self.inside.symbols.entries refl in
    let same = ap (λ es. with_entries (tables c.self.inside) Symbols (entries_by (λ k. text_row (string_bytes k)) (λ v. no_info) es)) c.in_err-number.ensures.entries_stay in
    let p = err_from_is_err_and c.from_residual.result c.from_residual.ensures.1 in
    rw (p.1, p.2) (refused c.self.inside.order.items _ (tables c.self.inside) _ _ _ _ c.self.view_is c.self.invariant c.in_err-number.ensures.order_stays same
    (λ symbol. symbol.number) (text_row c.args.text.now) _ _ _ refl many c.in_err-number.ensures.cause c.in_err-number.ensures.full c.requires)
