use Rattle.std.proofs.Common.{sym, subst}
use Rattle.tt_kinds.specs.Kinds.{ty_shape}
use Rattle.tt_interner.proofs.OwnedLaws.{list_still_owned}
use Rattle.checker.specs.Scope.{AreMarked, AreParameters}
use Rattle.checker.specs.Typing.{IsTypedBody}
use Rattle.checker.proofs.BuiltLaws.{on_ok}
use Rattle.checker.proofs.ScopeLaws.{around_stays, scope_stays}
use Rattle.checker.proofs.verify.verify.Goals as goal

pub formed_types-requires-clause-scope : goal.formed_types-requires-clause-scope
formed_types-requires-clause-scope c =
    scope_stays c.args.cx.now c.parameters.new.cx c.args.scope c.parameters.ensures.extends c.requires.scope

pub formed_types-requires-clause-params : goal.formed_types-requires-clause-params
formed_types-requires-clause-params c =
    subst (AreParameters c.parameters.new.cx c.args.scope.program.now c.args.scope.function.now) (sym c.as_slice.ensures.value)
    c.in_ok-params.ensures.are

pub verify_all-requires-clause-scope : goal.verify_all-requires-clause-scope
verify_all-requires-clause-scope c =
    scope_stays c.args.cx.now c.parameters.new.cx c.args.scope c.parameters.ensures.extends c.requires.scope

pub verify_all-requires-clause-marks : goal.verify_all-requires-clause-marks
verify_all-requires-clause-marks c =
    subst (AreMarked c.parameters.new.cx c.args.scope) (sym c.as_slice-2.ensures.value) c.in_ok-marks.ensures

pub verify_all-requires-clause-subjects : goal.verify_all-requires-clause-subjects
verify_all-requires-clause-subjects c =
    list_still_owned ty_shape c.args.cx.now c.parameters.new.cx c.args.subjects.now c.parameters.ensures.extends c.requires.subjects

pub returns-clause-typed : goal.returns-clause-typed
returns-clause-typed c =
    on_ok c.verify_all.result
    (λ typed. subst IsTypedBody (around_stays c.args.cx.now c.parameters.new.cx c.args.scope c.parameters.ensures.extends c.requires.scope)
    typed) c.verify_all.ensures.typed
