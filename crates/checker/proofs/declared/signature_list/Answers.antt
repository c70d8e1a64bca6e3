use Rattle.std.proofs.Common.{sym, subst}
use Rattle.checker.specs.Items.{AreOfSignature}
use Rattle.checker.proofs.declared.signature_list.Goals as goal

pub returns-clause-listed : goal.returns-clause-listed
returns-clause-listed c = record {
  types = c.as_slice.result.now;
  stored = c.in_ok-mk_tys.ensures.stored.stored;
  are = subst (AreOfSignature c.args.written.now c.args.item.now) (sym c.as_slice.ensures.value) c.in_ok-types.ensures.are;
}
