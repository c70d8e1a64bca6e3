use Rattle.std.proofs.Common.{sym, subst}
use Rattle.tt_kinds.specs.Kinds.{ty_shape}
use Rattle.tt_interner.specs.Owned.{AreOwned}
use Rattle.tt_interner.proofs.OwnedLaws.{list_still_owned}
use Rattle.checker.specs.Items.{ids_of}
use Rattle.checker.proofs.ProgramLaws.{function_typed}
use Rattle.checker.proofs.ScopeLaws.{declared_stay}
use Rattle.checker.proofs.programs.types_of.Goals as goal

pub verify-requires-clause-scope : goal.verify-requires-clause-scope
verify-requires-clause-scope c = record {
  declared = declared_stay c.args.cx.now c.infer_body.new.cx c.args.program.now c.args.declared.now c.infer_body.ensures.extends c.requires;
  types = subst (AreOwned ty_shape c.infer_body.new.cx) (sym c.as_slice.ensures.value) c.in_ok-found.ensures.types;
}

pub returns-clause-owned : goal.returns-clause-owned
returns-clause-owned c =
    list_still_owned ty_shape c.infer_body.new.cx c.verify.new.cx c.in_ok-found.found.types.items c.verify.ensures.extends
    c.in_ok-found.ensures.types

pub returns-clause-typed : goal.returns-clause-typed
returns-clause-typed c =
    function_typed c.infer_body.new.cx c.verify.new.cx c.args.program.now (ids_of c.args.declared.now) c.args.function.now
    c.in-Some.body c.in_ok-found.found.types.items c.as_slice.result.now c.verify.ensures.extends c.in_ok-found.ensures.types
    c.in-Some.is c.as_slice.ensures.value c.in_ok-verify.ensures.typed
