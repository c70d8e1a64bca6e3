-- the key of an entry is its row
use Rattle.std.proofs.Common.{refl}
use Rattle.tt_kinds.specs.declared.table.Table.TheVariants.{Predicates}
use Rattle.tt_interner.specs.Rows.{predicate_row}
use Rattle.tt_interner.proofs.ReadsLaws.{reads}
use Rattle.tt_interner.proofs.TableLaws.{key_row}
use Rattle.tt_interner.proofs.interner.predicates.PredicateInternedKind.kind.Goals as goal

pub returns : goal.returns
returns c = rw (← c.cx.view_is)
    (reads _ c.cx.invariant.tables.are Predicates _ _ refl (key_row _ _ _ c.cx.invariant.tables Predicates predicate_row (λ v. v) c.cx.inside.predicates.entries refl _ _ refl (rw c.number.ensures at c.key_at.ensures)))
