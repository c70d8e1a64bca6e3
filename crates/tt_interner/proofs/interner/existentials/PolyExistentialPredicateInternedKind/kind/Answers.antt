-- the key of an entry is its row
use Rattle.std.proofs.Common.{refl}
use Rattle.tt_kinds.specs.declared.table.Table.TheVariants.{Existentials}
use Rattle.tt_interner.specs.Rows.{existential_row}
use Rattle.tt_interner.proofs.ReadsLaws.{reads}
use Rattle.tt_interner.proofs.TableLaws.{key_row}
use Rattle.tt_interner.proofs.interner.existentials.PolyExistentialPredicateInternedKind.kind.Goals as goal

pub returns : goal.returns
returns c = rw (← c.cx.view_is)
    (reads _ c.cx.invariant.tables.are Existentials _ _ refl (key_row _ _ _ c.cx.invariant.tables Existentials existential_row (λ v. v) c.cx.inside.existentials.entries refl _ _ refl (rw c.number.ensures at c.key_at.ensures)))
