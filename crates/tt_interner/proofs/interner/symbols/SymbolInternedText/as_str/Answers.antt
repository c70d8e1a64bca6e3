-- the key of an entry is its row
use Rattle.std.proofs.Common.{refl}
use Rattle.std.specs.String.{string_bytes}
use Rattle.tt_kinds.specs.declared.table.Table.TheVariants.{Symbols}
use Rattle.tt_interner.specs.Tables.{no_info}
use Rattle.tt_interner.specs.Rows.{text_row}
use Rattle.tt_interner.proofs.TableLaws.{key_row}
use Rattle.tt_interner.proofs.interner.symbols.SymbolInternedText.as_str.Goals as goal

pub returns : goal.returns
returns c = rw (c.as_str.ensures.value, ← c.cx.view_is) (key_row _ _ _ c.cx.invariant.tables Symbols (λ k. text_row (string_bytes k)) (λ v. no_info) c.cx.inside.symbols.entries refl _ _ refl (rw c.number.ensures at c.key_at.ensures))
