use Rattle.std.proofs.Common.{Some, ap, refl, sym, ◌∙◌}
use Rattle.std.proofs.lemmas.Bool.{true≢false}
use Rattle.tt_kinds.specs.Kinds.{ty_shape}
use Rattle.tt_kinds.specs.Values.{option_shape}
use Rattle.tt_interner.proofs.OwnedLaws.{get_owned}
use Rattle.unify.proofs.ResolverSteps.{entry_owned, says_entry, says_none}
use Rattle.unify.proofs.resolver.binding_of.Goals as goal

pub returns-in-Some-get-clause-owned : goal.returns-in-Some-get-clause-owned
returns-in-Some-get-clause-owned c =
    let found = c.in-Some-get.ensures.lookup in
    let xs = c.args.entries.now in
    entry_owned c.args.cx.now c.in-Some-get.entry.now
    (get_owned (option_shape ty_shape) c.args.cx.now xs xs c.as_usize.result _ refl found.3.0 found.1 c.requires.entries.2)

pub returns-in-Some-get-clause-is : goal.returns-in-Some-get-clause-is
returns-in-Some-get-clause-is c =
    let found = c.in-Some-get.ensures.lookup in
    says_entry c.args.cx.now c.args.entries.now _ c.as_usize.result c.in-Some-get.entry.now
    (sym c.variable_of.ensures ∙ c.in-Some.is ∙ ap Some (sym c.as_usize.ensures.number)) found.3.0 found.1

pub returns-in-None-get-clause-is : goal.returns-in-None-get-clause-is
returns-in-None-get-clause-is c =
    let found = c.in-None-get.ensures.lookup in
    says_none c.args.cx.now c.args.entries.now _ c.as_usize.result
    (sym c.variable_of.ensures ∙ c.in-Some.is ∙ ap Some (sym c.as_usize.ensures.number)) (λ l. true≢false (sym (found.2 l)))
