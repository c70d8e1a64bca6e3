use Rattle.std.proofs.Common.{rules, IsTrue, sym, subst, ap, ◌∙◌}
use Rattle.std.specs.Prelude.{slice_get}
use Rattle.checker.specs.Scope.{argument_trees}
use Rattle.checker.specs.Typing.{AreTypeArguments}
use Rattle.checker.proofs.ArgumentLaws.{data_type_read}
use Rattle.checker.proofs.InstanceLaws.{data_type_found}
use Rattle.checker.proofs.verify.instances.arguments_of.Goals as goal

pub returns-then-are_type_arguments-clause-is : goal.returns-then-are_type_arguments-clause-is
returns-then-are_type_arguments-clause-is c =
    let cx = c.args.cx.now in
    let adt = c.in-Adt in
    let item = c.args.item.now in
    let declared = c.in_ok-declared.declared in
    let k = c.args.data in
    let one : IsTrue c.is_same.result = search rules in
    let all : IsTrue c.are_type_arguments.result = search rules in
    let types = subst (AreTypeArguments (argument_trees cx adt.args)) (c.len.ensures ∙ item.params.ok.0) (c.are_type_arguments.ensures.types all) in
    let at = sym (ap (λ xs. slice_get xs k) c.as_slice.ensures.value) ∙ c.in_ok-declared.ensures in
    data_type_found cx c.args.scope adt.args k item adt.id declared c.args.ty c.requires.item at (c.is_same.ensures one) types
    (data_type_read cx c.args.ty adt.id adt.args _ c.kind.ensures adt.is c.are_type_arguments.ensures.listed)
