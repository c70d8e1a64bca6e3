use Rattle.tt_kinds.specs.Kinds.{ty_shape}
use Rattle.tt_kinds.specs.Values.{option_shape}
use Rattle.tt_interner.proofs.OwnedLaws.{get_owned, some_owned}
use Rattle.guide_tests.proofs.tests.resolver.ResolverTypeReplacer.replace_ty.Goals as goal

pub returns-in-Some-Some-clause-result : goal.returns-in-Some-Some-clause-result
returns-in-Some-Some-clause-result c =
    let found = c.in-Some-Some.ensures.lookup in
    let bindings = c.args.self.now.bindings.items in
    let entry = get_owned (option_shape ty_shape) c.args.cx.now bindings _ c.as_usize.result _ c.deref.ensures.value found.3.0 found.1 c.requires.owned.2 in
    (some_owned ty_shape c.args.cx.now _ _ c.in-Some-Some.field-0-is entry, tt)
