-- the look-up finds the row
use Rattle.std.proofs.Common.{sym, refl, arith}
use Rattle.std.specs.String.{string_bytes}
use Rattle.tt_kinds.specs.declared.table.Table.TheVariants.{Symbols}
use Rattle.tt_interner.specs.Tables.{no_info}
use Rattle.tt_interner.specs.Rows.{text_row}
use Rattle.tt_interner.proofs.FoundLaws.{none_from_not_some}
use Rattle.tt_interner.proofs.TableLaws.{fits, found, absent}
use Rattle.tt_interner.proofs.Keys.{text_key}
use Rattle.tt_interner.proofs.interner.Interner.find_symbol.Goals as goal

pub overflow_cast-number : goal.overflow_cast-number
overflow_cast-number c = let h = fits _ _ _ c.self.invariant.tables Symbols (λ k. text_row (string_bytes k)) (λ v. no_info) c.self.inside.symbols.entries refl c.in-Some.number c.in-Some.ensures.within in omega arith

pub returns-in-Some : goal.returns-in-Some
returns-in-Some c = rw (c.from_number.ensures, ← c.self.view_is) (found _ _ _ c.self.invariant.tables Symbols (λ k. text_row (string_bytes k)) (λ v. no_info) c.self.inside.symbols.entries refl _ (text_row c.args.text.now) refl (text_key (λ k. string_bytes k) c.args.text.now) _ (sym c.in-Some.ensures.index))

pub returns-in-None : goal.returns-in-None
returns-in-None c = rw (← c.self.view_is) (absent _ _ _ c.self.invariant.tables Symbols (λ k. text_row (string_bytes k)) (λ v. no_info) c.self.inside.symbols.entries refl _ (text_row c.args.text.now) refl (text_key (λ k. string_bytes k) c.args.text.now) (none_from_not_some _ (sym c.in-None.ensures.found)))
