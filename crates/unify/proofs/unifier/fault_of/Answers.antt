use Rattle.std.proofs.Common.{sym, ap, ◌∙◌}
use Rattle.tt_interner.specs.Rows.{meaning}
use Rattle.unify.specs.Bindings.{stored}
use Rattle.unify.proofs.BindingsLaws.{bound_tree, reads}
use Rattle.unify.proofs.LinkLaws.{reaches_bound}
use Rattle.unify.proofs.unifier.fault_of.Goals as goal

pub unreachable-requires : goal.unreachable-requires
unreachable-requires c =
    let terms = c.args.cx.now in
    let some = (reaches_bound (stored terms c.args.entries.now)
    (c.requires c.in-Cycle.variable c.in-Cycle.is)).1 in
    let none = reads terms c.args.entries.now c.in-Cycle.variable
    ∙ ap (bound_tree (meaning terms.rows)) (sym c.entry_at.ensures ∙ c.in-None.is) in
    cc
