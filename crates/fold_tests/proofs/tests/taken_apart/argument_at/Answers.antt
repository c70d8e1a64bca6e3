use Rattle.std.proofs.Common.{refl}
use Rattle.tt_kinds.specs.Kinds.{arg_shape}
use Rattle.tt_interner.proofs.OwnedLaws.{get_owned, owned_some}
use Rattle.fold_tests.proofs.tests.taken_apart.argument_at.Goals as goal

pub returns-in-Some : goal.returns-in-Some
returns-in-Some c =
    let at = c.in-Some.ensures.lookup in
    owned_some arg_shape c.args.cx.now _ (get_owned arg_shape c.args.cx.now c.args.args.now _ c.args.place _ refl at.3.0 at.1 c.requires)
