use Rattle.std.proofs.Common.{sym, subst}
use Rattle.tt_kinds.specs.Kinds.{ty_shape}
use Rattle.tt_interner.specs.Owned.{AreOwned}
use Rattle.tt_interner.proofs.Growth.{Extends-trans}
use Rattle.tt_interner.proofs.OwnedLaws.{list_still_owned}
use Rattle.unify.specs.Bindings.{IsTable}
use Rattle.unify.proofs.UnificationLaws.{empty_table}
use Rattle.checker.proofs.ScopeLaws.{declared_stay}
use Rattle.checker.proofs.infer.infer_body.Goals as goal

pub infer_all-requires-clause-table : goal.infer_all-requires-clause-table
infer_all-requires-clause-table c = subst (IsTable c.args.cx.now) (sym c.new-bindings.ensures) (empty_table c.args.cx.now)

pub infer_result-requires-clause-scope : goal.infer_result-requires-clause-scope
infer_result-requires-clause-scope c = record {
  declared = declared_stay c.args.cx.now c.infer_all.new.cx c.args.program.now c.args.declared.now c.infer_all.ensures.extends c.requires;
  types = subst (AreOwned ty_shape c.infer_all.new.cx) (sym c.as_slice.ensures.value) c.in_ok-found.ensures.types;
}

pub resolved-requires-clause-types : goal.resolved-requires-clause-types
resolved-requires-clause-types c = subst (AreOwned ty_shape c.infer_result.new.cx) (sym c.as_slice.ensures.value)
    (list_still_owned ty_shape c.infer_all.new.cx c.infer_result.new.cx c.in_ok-found.found.types.items c.infer_result.ensures.extends c.in_ok-found.ensures.types)

pub returns-in_err-types-clause-extends : goal.returns-in_err-types-clause-extends
returns-in_err-types-clause-extends c = Extends-trans c.infer_all.ensures.extends (Extends-trans c.infer_result.ensures.extends c.resolved.ensures.extends)

pub resolved-requires-2-clause-types : goal.resolved-requires-2-clause-types
resolved-requires-2-clause-types c = subst (AreOwned ty_shape c.resolved.new.cx) (sym c.as_slice-2.ensures.value)
    (list_still_owned ty_shape c.infer_all.new.cx c.resolved.new.cx c.in_ok-found.found.subjects.items (Extends-trans c.infer_result.ensures.extends c.resolved.ensures.extends) c.in_ok-found.ensures.subjects)

pub returns-in_err-subjects-clause-extends : goal.returns-in_err-subjects-clause-extends
returns-in_err-subjects-clause-extends c = Extends-trans c.infer_all.ensures.extends (Extends-trans c.infer_result.ensures.extends (Extends-trans c.resolved.ensures.extends c.resolved-2.ensures.extends))

pub returns-clause-extends : goal.returns-clause-extends
returns-clause-extends c = Extends-trans c.infer_all.ensures.extends (Extends-trans c.infer_result.ensures.extends (Extends-trans c.resolved.ensures.extends c.resolved-2.ensures.extends))

pub returns-clause-types : goal.returns-clause-types
returns-clause-types c = list_still_owned ty_shape c.resolved.new.cx c.resolved-2.new.cx c.in_ok-types.types.items c.resolved-2.ensures.extends c.in_ok-types.ensures.owned
