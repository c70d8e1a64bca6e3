use Rattle.std.proofs.Common.{sym, subst}
use Rattle.tt_kinds.specs.Kinds.{ty_shape}
use Rattle.tt_interner.specs.Owned.{AreOwned}
use Rattle.tt_interner.proofs.Growth.{Extends-trans}
use Rattle.tt_interner.proofs.OwnedLaws.{push_owned}
use Rattle.checker.proofs.infer.known_items.Goals as goal

pub loop-number-preserved : goal.loop-number-preserved
loop-number-preserved c = record {
  extends = c.loop-number.invariant.extends;
  table = c.loop-number.invariant.table;
  all = c.loop-number.invariant.all;
  known = subst (AreOwned ty_shape c.loop-number.cx) (sym c.in_ok-push.ensures.items)
      (push_owned ty_shape c.loop-number.cx c.loop-number.known.items c.in-Some.ty c.loop-number.invariant.known c.in-Some.ensures.owned);
}

pub returns-in_err-cause-clause-extends : goal.returns-in_err-cause-clause-extends
returns-in_err-cause-clause-extends c = Extends-trans c.loop-number.invariant.extends c.unknown_type.ensures.extends

pub returns-then-has_infer-clause-extends : goal.returns-then-has_infer-clause-extends
returns-then-has_infer-clause-extends c = Extends-trans c.loop-number.invariant.extends c.unknown_type.ensures.extends
