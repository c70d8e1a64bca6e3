use Rattle.std.proofs.Common.{Some, ap, sym, ◌∙◌}
use Rattle.tt_kinds.specs.Kinds.{ty_shape}
use Rattle.tt_fold.specs.Steps.{tree_in}
use Rattle.unify.specs.Bindings.{stored}
use Rattle.unify.proofs.PairMismatches.{entry_bound}
use Rattle.unify.proofs.ResolverSteps.{says_entry}
use Rattle.unify.proofs.resolver.unbound_variable.Goals as goal

pub returns-in-Some-Some-clause-foreign : goal.returns-in-Some-Some-clause-foreign
returns-in-Some-Some-clause-foreign c = λ v is none.
    let found = c.in-Some-Some.ensures.lookup in
    let t = tree_in c.args.cx.now.rows (ty_shape c.args.ty) in
    absurd (entry_bound c.args.cx.now (stored c.args.cx.now c.args.entries.now) t c.in-Some-Some.field-0.now c.in-Some-Some.field-0-0
    (says_entry c.args.cx.now c.args.entries.now t c.as_usize.result c.in-Some-Some.field-0.now (sym c.variable_of.ensures ∙ c.in-Some.is ∙ ap Some (sym c.as_usize.ensures.number)) found.3.0 found.1)
    c.in-Some-Some.field-0-is none)
