-- the first arguments are the interner's, as all of them are
use Rattle.std.proofs.Common.{sym, subst}
use Rattle.tt_kinds.specs.Kinds.{arg_shape}
use Rattle.tt_interner.specs.Owned.{AreOwned}
use Rattle.tt_interner.proofs.OwnedLaws.{take_owned}
use Rattle.tt_interner.proofs.alias.AliasTyInternedAlias.trait_ref_and_own_args.Goals as goal

pub put_args-requires : goal.put_args-requires
put_args-requires c = rw c.in_ok-items-in-Some.ensures.items (take_owned arg_shape c.args.cx.now _ _ c.as_slice.ensures.parts.1)

pub mk_args-requires : goal.mk_args-requires
mk_args-requires c = subst (AreOwned arg_shape c.args.cx.now) (sym c.in_place-places.ensures) (take_owned arg_shape c.args.cx.now _ _ c.as_slice.ensures.parts.1)
