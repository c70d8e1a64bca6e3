use Rattle.std.proofs.Common.{sym, subst}
use Rattle.unify.specs.Bindings.{AreEntries}
use Rattle.unify.proofs.RollbackLaws.{earlier_entries}
use Rattle.unify.proofs.bindings.Bindings.rollback_to.Goals as goal

pub returns-clause-table : goal.returns-clause-table
returns-clause-table c = λ terms table.
    subst (AreEntries terms) (sym c.undo_from.ensures.entries)
    (earlier_entries terms c.args.snapshot.variables c.args.snapshot.bindings c.self.inside.table.bound.items
    c.self.inside.table.entries.items (subst (λ b. AreEntries terms b.entries) (sym c.self.view_is) table))
