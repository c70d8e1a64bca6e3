-- the key of an entry is its row
use Rattle.std.proofs.Common.{refl}
use Rattle.tt_kinds.specs.declared.table.Table.TheVariants.{TypeLists}
use Rattle.tt_interner.specs.Rows.{tys_row}
use Rattle.tt_interner.proofs.ReadsLaws.{reads}
use Rattle.tt_interner.proofs.TableLaws.{key_row}
use Rattle.tt_interner.proofs.interner.types.TysInternedList.as_slice.Goals as goal

pub returns : goal.returns
returns c = rw (c.as_slice.ensures, ← c.cx.view_is)
    (reads _ c.cx.invariant.tables.are TypeLists _ _ refl (key_row _ _ _ c.cx.invariant.tables TypeLists (λ k. tys_row k.items) (λ v. v) c.cx.inside.type_lists.entries refl _ _ refl (rw c.number.ensures at c.key_at.ensures)))
