use Rattle.std.proofs.Common.{rules, IsTrue, length, refl, ap, sym, subst, ◌∙◌}
use Rattle.std.specs.Prelude.{slice_get}
use Rattle.std.proofs.lemmas.Option.{slice_get_read}
use Rattle.tt_kinds.specs.Kinds.{args_shape}
use Rattle.tt_interner.specs.Owned.{IsOwned}
use Rattle.checker.specs.Scope.{argument_trees, around}
use Rattle.checker.specs.Typing.{AreTypeArguments, Fit}
use Rattle.checker.specs.Written.{part}
use Rattle.checker.proofs.BuiltLaws.{on_ok}
use Rattle.checker.proofs.CallLaws.{call_typed}
use Rattle.checker.proofs.ScopeLaws.{scope_stays}
use Rattle.checker.proofs.verify.instances.verify_call.Goals as goal

pub verify_instance-requires-clause-scope : goal.verify_instance-requires-clause-scope
verify_instance-requires-clause-scope c =
    scope_stays c.args.cx.now c.verify_each.new.cx c.args.scope c.in_ok-verify_each.ensures.extends c.requires.scope

pub returns-clause-typed : goal.returns-clause-typed
returns-clause-typed c =
    let old = c.args.cx.now in
    let args = c.in-FnDef.args in
    let item = c.in-Some.item.now in
    let f = c.args.function in
    let numbers = c.in_ok-operands.operands.now in
    let owned : IsOwned args_shape old args = search rules in
    let lookup = c.in-Some.ensures.lookup in
    let read = slice_get_read c.deref.result.now (length c.deref.result.now) f item refl lookup.3.0 lookup.1 in
    let there = sym (ap (λ xs. slice_get xs f) c.deref.ensures.value) ∙ read in
    let are : IsTrue c.are_type_arguments.result = search rules in
    let counted = subst (AreTypeArguments (argument_trees old args)) (c.len.ensures ∙ item.params.ok.0) (c.are_type_arguments.ensures.types are) in
    let marked : IsTrue c.are_arguments_marked.result = search rules in
    let formed = c.are_arguments_marked.ensures marked in
    let same = c.in_ok-operands.ensures ∙ ap (λ xs. part xs c.args.operands) c.as_slice.ensures.value in
    let fit = subst (λ ws. Fit (around old c.args.scope) c.args.number (argument_trees old args) ws numbers) c.as_slice-2.ensures.value
    c.in_ok-verify_each.ensures.fit in
    on_ok c.verify_instance.result (λ is.
    call_typed old c.verify_each.new.cx c.args.scope args c.in_ok-verify_each.ensures.extends c.requires.scope owned c.are_type_arguments.ensures.are
    c.args.number f c.args.operands item c.args.ty numbers there counted formed same fit c.requires.ty is) c.verify_instance.ensures.plain
