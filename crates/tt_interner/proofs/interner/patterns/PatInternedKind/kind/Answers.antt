-- the key of an entry is its row
use Rattle.std.proofs.Common.{refl}
use Rattle.tt_kinds.specs.declared.table.Table.TheVariants.{Patterns}
use Rattle.tt_interner.specs.Rows.{pat_row}
use Rattle.tt_interner.proofs.ReadsLaws.{reads}
use Rattle.tt_interner.proofs.TableLaws.{key_row}
use Rattle.tt_interner.proofs.interner.patterns.PatInternedKind.kind.Goals as goal

pub returns : goal.returns
returns c = rw (← c.cx.view_is)
    (reads _ c.cx.invariant.tables.are Patterns _ _ refl (key_row _ _ _ c.cx.invariant.tables Patterns pat_row (λ v. v) c.cx.inside.patterns.entries refl _ _ refl (rw c.number.ensures at c.key_at.ensures)))
