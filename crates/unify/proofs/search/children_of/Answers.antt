use Rattle.std.proofs.Common.{Some, sym, ap, ◌∙◌}
use Rattle.tt_kinds.specs.Kinds.{ty_shape}
use Rattle.tt_interner.specs.Rows.{meaning}
use Rattle.tt_fold.specs.Steps.{tree_in}
use Rattle.unify.specs.Bindings.{stored}
use Rattle.unify.proofs.BindingsLaws.{bound_tree, reads}
use Rattle.unify.proofs.OwnSolution.{entry_inside}
use Rattle.unify.proofs.SearchSteps.{lists_children, only_children}
use Rattle.unify.proofs.search.children_of.Goals as goal

pub variables_in-requires : goal.variables_in-requires
variables_in-requires c =
    entry_inside c.args.cx.now c.args.entries.now c.args.variable c.in-Some.ty (sym c.entry_at.ensures ∙ c.in-Some.is)
    c.requires.2

pub returns-in-Some-clause-all : goal.returns-in-Some-clause-all
returns-in-Some-clause-all c =
    let terms = c.args.cx.now in
    lists_children (stored terms c.args.entries.now) c.args.variable
    (tree_in terms.rows (ty_shape c.in-Some.ty))
    (reads terms c.args.entries.now c.args.variable
    ∙ ap (bound_tree (meaning terms.rows)) (sym c.entry_at.ensures ∙ c.in-Some.is))
    (λ f. f.items) c.variables_in.result c.variables_in.ensures.all

pub returns-in-Some-clause-only : goal.returns-in-Some-clause-only
returns-in-Some-clause-only c =
    let terms = c.args.cx.now in
    only_children (stored terms c.args.entries.now) c.args.variable
    (tree_in terms.rows (ty_shape c.in-Some.ty))
    (reads terms c.args.entries.now c.args.variable
    ∙ ap (bound_tree (meaning terms.rows)) (sym c.entry_at.ensures ∙ c.in-Some.is))
    (λ f. f.items) c.variables_in.result c.variables_in.ensures.only

pub returns-in-None-clause-all : goal.returns-in-None-clause-all
returns-in-None-clause-all c = λ u child.
    let terms = c.args.cx.now in
    let none = reads terms c.args.entries.now c.args.variable
    ∙ ap (bound_tree (meaning terms.rows)) (sym c.entry_at.ensures ∙ c.in-None.is) in
    absurd (let some = child.1.0 in cc)
