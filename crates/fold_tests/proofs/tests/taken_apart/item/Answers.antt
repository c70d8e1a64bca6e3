use Rattle.std.proofs.Common.{refl}
use Rattle.tt_kinds.specs.Kinds.{ty_shape}
use Rattle.tt_interner.proofs.OwnedLaws.{get_owned, owned_some}
use Rattle.fold_tests.proofs.tests.taken_apart.item.Goals as goal

pub returns-in-Some : goal.returns-in-Some
returns-in-Some c =
    let at = c.in-Some.ensures.lookup in
    owned_some ty_shape c.args.cx.now _ (get_owned ty_shape c.args.cx.now _ _ c.args.place _ refl at.3.0 at.1 c.as_slice.ensures.parts.1)
