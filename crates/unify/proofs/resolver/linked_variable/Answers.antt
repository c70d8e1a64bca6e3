use Rattle.std.proofs.Common.{ap, sym, ◌∙◌}
use Rattle.tt_interner.specs.Rows.{meaning}
use Rattle.unify.specs.Resolver.{linked_variable}
use Rattle.unify.proofs.BindingsLaws.{bound_tree, reads}
use Rattle.unify.proofs.OwnSolution.{entry_inside}
use Rattle.unify.proofs.resolver.linked_variable.Goals as goal

pub variable_of-requires : goal.variable_of-requires
variable_of-requires c =
    entry_inside c.args.cx.now c.args.entries.now c.args.variable c.in-Some.ty (sym c.entry_at.ensures ∙ c.in-Some.is)
    c.requires.2

pub returns-in-Some : goal.returns-in-Some
returns-in-Some c =
    c.variable_of.ensures
    ∙ sym (ap linked_variable (reads c.args.cx.now c.args.entries.now c.args.variable
    ∙ ap (bound_tree (meaning c.args.cx.now.rows)) (sym c.entry_at.ensures ∙ c.in-Some.is)))

pub returns-in-None : goal.returns-in-None
returns-in-None c =
    sym (ap linked_variable (reads c.args.cx.now c.args.entries.now c.args.variable
    ∙ ap (bound_tree (meaning c.args.cx.now.rows)) (sym c.entry_at.ensures ∙ c.in-None.is)))
