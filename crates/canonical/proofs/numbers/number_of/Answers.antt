use Rattle.std.proofs.Common.{ap, sym, ◌∙◌}
use Rattle.std.proofs.lemmas.Bool.{eqb-true}
use Rattle.std.specs.Cmp.{nat_eq_equiv}
use Rattle.tt_kinds.specs.Kinds.{ty_shape}
use Rattle.tt_interner.specs.Rows.{meaning}
use Rattle.tt_fold.specs.Steps.{tree_in}
use Rattle.unify.specs.Bindings.{stored}
use Rattle.unify.specs.Memo.{entries_in}
use Rattle.unify.proofs.BindingsLaws.{bound_tree, reads}
use Rattle.unify.proofs.MemoLaws.{found_at, noted_owned}
use Rattle.unify.proofs.ResolverSteps.{binding_at_variable, entry_says, unbound_other}
use Rattle.canonical.proofs.numbers.number_of.Goals as goal

pub returns-in-Some-clause-owned : goal.returns-in-Some-clause-owned
returns-in-Some-clause-owned c =
    let entries = c.args.numbers.now.entries in
    noted_owned c.args.cx.now (entries_in entries) c.in-Some.variable c.copied.result
    (found_at _ nat_eq_equiv.refl eqb-true entries c.in-Some.variable ∙ sym c.get.ensures.value
    ∙ sym c.copied.ensures) c.requires.numbers

pub returns-in-Some-clause-is : goal.returns-in-Some-clause-is
returns-in-Some-clause-is c =
    let terms = c.args.cx.now in
    let entries = c.args.numbers.now.entries in
    let t = tree_in terms.rows (ty_shape c.args.ty) in
    let σ = stored terms (entries_in entries) in
    entry_says terms σ t c.copied.result
    (binding_at_variable σ t c.in-Some.variable (sym c.variable_of.ensures ∙ c.in-Some.is)
    ∙ reads terms (entries_in entries) c.in-Some.variable
    ∙ ap (bound_tree (meaning terms.rows))
    (found_at _ nat_eq_equiv.refl eqb-true entries c.in-Some.variable ∙ sym c.get.ensures.value
    ∙ sym c.copied.ensures))

pub returns-in-None-clause-is : goal.returns-in-None-clause-is
returns-in-None-clause-is c =
    let terms = c.args.cx.now in
    unbound_other (stored terms (entries_in c.args.numbers.now.entries)) (tree_in terms.rows (ty_shape c.args.ty))
    (sym c.variable_of.ensures ∙ c.in-None.is)
