use Rattle.std.proofs.Common.{length, sym, subst}
use Rattle.tt_kinds.specs.Kinds.{ty_shape}
use Rattle.tt_interner.specs.Owned.{AreOwned}
use Rattle.tt_interner.proofs.OwnedLaws.{push_owned}
use Rattle.checker.specs.Items.{AreTypesBefore}
use Rattle.checker.proofs.declared.signature_types.Goals as goal

pub returns-clause-owned : goal.returns-clause-owned
returns-clause-owned c = subst (AreOwned ty_shape c.args.cx.now) (sym c.in_ok-push.ensures.items)
    (push_owned ty_shape c.args.cx.now c.in_ok-types.types.items c.in_ok-output.output c.in_ok-types.ensures.owned c.in_ok-output.ensures.owned)

pub returns-clause-are : goal.returns-clause-are
returns-clause-are c =
    let written = c.args.written.now in
    let found = c.in_ok-types.types.items in
    record {
      inputs = found;
      output = c.in_ok-output.output;
      are = c.in_ok-push.ensures.items;
      taken = subst (λ ns. AreTypesBefore written (length written) ns found) c.as_slice.ensures.value c.in_ok-types.ensures.are;
      returned = c.in_ok-output.ensures.is;
    }
