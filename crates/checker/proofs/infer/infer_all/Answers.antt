use Rattle.std.proofs.Common.{sym, subst}
use Rattle.tt_kinds.specs.Kinds.{ty_shape}
use Rattle.tt_interner.specs.Owned.{AreOwned}
use Rattle.tt_interner.proofs.Growth.{Extends-trans}
use Rattle.tt_interner.proofs.OwnedLaws.{list_still_owned, push_owned}
use Rattle.checker.proofs.ScopeLaws.{declared_stay}
use Rattle.checker.proofs.infer.infer_all.Goals as goal

pub infer-requires-clause-scope : goal.infer-requires-clause-scope
infer-requires-clause-scope c = record {
  declared = declared_stay c.args.cx.now c.loop-number.cx c.args.program.now c.args.declared.now c.loop-number.invariant.extends c.requires.declared;
  types = subst (AreOwned ty_shape c.loop-number.cx) (sym c.as_slice-before.ensures.value) c.loop-number.invariant.types;
}

pub returns-in_err-found-clause-extends : goal.returns-in_err-found-clause-extends
returns-in_err-found-clause-extends c = Extends-trans c.loop-number.invariant.extends c.infer.ensures.extends

pub loop-number-preserved : goal.loop-number-preserved
loop-number-preserved c = record {
  extends = Extends-trans c.loop-number.invariant.extends c.infer.ensures.extends;
  table = c.infer.ensures.table;
  types = subst (AreOwned ty_shape c.infer.new.cx) (sym c.in_ok-push.ensures.items) (push_owned ty_shape c.infer.new.cx c.loop-number.types.items c.in_ok-found.found.0 (list_still_owned ty_shape c.loop-number.cx c.infer.new.cx c.loop-number.types.items c.infer.ensures.extends c.loop-number.invariant.types) c.in_ok-found.ensures.ty);
  subjects = subst (AreOwned ty_shape c.infer.new.cx) (sym c.in_ok-push-2.ensures.items) (push_owned ty_shape c.infer.new.cx c.loop-number.subjects.items c.in_ok-found.found.1 (list_still_owned ty_shape c.loop-number.cx c.infer.new.cx c.loop-number.subjects.items c.infer.ensures.extends c.loop-number.invariant.subjects) c.in_ok-found.ensures.subject);
}
