use Rattle.std.proofs.Common.{sym, subst}
use Rattle.tt_kinds.specs.Kinds.{ty_shape}
use Rattle.tt_interner.specs.Owned.{AreOwned}
use Rattle.tt_interner.proofs.Growth.{Extends-trans}
use Rattle.tt_interner.proofs.OwnedLaws.{list_still_owned, push_owned}
use Rattle.checker.proofs.infer.equality.fresh_variables.Goals as goal

pub loop-preserved : goal.loop-preserved
loop-preserved c = record {
  extends = Extends-trans c.loop.invariant.extends c.fresh_variable.ensures.extends;
  table = c.fresh_variable.ensures.table;
  owned = subst (AreOwned ty_shape c.fresh_variable.new.cx) (sym c.in_ok-push.ensures.items) (push_owned ty_shape c.fresh_variable.new.cx c.loop.variables.items c.in_ok-fresh_variable.field-0
      (list_still_owned ty_shape c.loop.cx c.fresh_variable.new.cx c.loop.variables.items c.fresh_variable.ensures.extends c.loop.invariant.owned) c.in_ok-fresh_variable.ensures.owned);
}
