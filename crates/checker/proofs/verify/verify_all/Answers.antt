use Rattle.std.proofs.Common.{◌≤◌, length, arith, add-one, ap, sym, subst, ◌∙◌}
use Rattle.std.specs.Prelude.{slice_get}
use Rattle.tt_kinds.specs.Kinds.{ty_shape}
use Rattle.tt_interner.proofs.OwnedLaws.{list_still_owned}
use Rattle.checker.specs.Scope.{around}
use Rattle.checker.proofs.BodyLaws.{body_typed}
use Rattle.checker.proofs.BuiltLaws.{on_ok}
use Rattle.tt_interner.proofs.Growth.{Extends-trans}
use Rattle.checker.proofs.FormedLaws.{marks_stay}
use Rattle.checker.proofs.ScopeLaws.{scope_stays}
use Rattle.checker.proofs.TypingLaws.{AreTypedBelow, has_type_stays, typed_next}
use Rattle.checker.proofs.verify.verify_all.Goals as goal

pub type_at-requires : goal.type_at-requires
type_at-requires c =
    list_still_owned ty_shape c.args.cx.now c.loop-number.cx c.args.subjects.now c.loop-number.invariant.extends c.requires.subjects

pub verify_expression-requires-clause-scope : goal.verify_expression-requires-clause-scope
verify_expression-requires-clause-scope c =
    scope_stays c.args.cx.now c.loop-number.cx c.args.scope c.loop-number.invariant.extends c.requires.scope

pub verify_expression-requires-clause-marks : goal.verify_expression-requires-clause-marks
verify_expression-requires-clause-marks c =
    marks_stay c.args.cx.now c.loop-number.cx c.args.scope c.args.marks.now c.loop-number.invariant.extends c.requires.scope c.requires.marks

pub loop-number-preserved : goal.loop-number-preserved
loop-number-preserved c =
    let old = c.args.cx.now in
    let A = around old c.args.scope in
    let es = c.args.scope.body.now.expressions.items in
    let n = c.loop-number.number in
    let inv = c.loop-number.invariant in
    let e = c.in_ok-expression.expression in
    let at = sym (ap (λ xs. slice_get xs n) c.as_slice.ensures.value) ∙ c.in_ok-expression.ensures in
    let has = has_type_stays old c.loop-number.cx c.args.scope n e inv.extends c.requires.scope c.in_ok-verify_expression.ensures.typed in
    record {
      extends = Extends-trans inv.extends c.in_ok-verify_expression.ensures.extends;
      typed = subst (λ m. AreTypedBelow A es m) (sym (add-one n)) (typed_next A es n e inv.typed at has);
    }

pub written-requires : goal.written-requires
written-requires c = scope_stays c.args.cx.now c.loop-number.cx c.args.scope c.loop-number.invariant.extends c.requires.scope

pub type_of-requires : goal.type_of-requires
type_of-requires c = scope_stays c.args.cx.now c.loop-number.cx c.args.scope c.loop-number.invariant.extends c.requires.scope

pub returns-clause-typed : goal.returns-clause-typed
returns-clause-typed c =
    let expressions = c.args.scope.body.now.expressions in
    let all : length expressions.items ≤ c.loop-number.number =
    omega (arith, c.loop-number-test.false, c.len-number-end.ensures, expressions.ok.0) in
    let counted = c.if-scope-len.false ∙ (c.len.ensures ∙ expressions.ok.0) in
    on_ok c.same.result (λ same.
    body_typed c.args.cx.now c.loop-number.cx c.args.scope c.loop-number.number c.in_ok-output.output c.in_ok-result.result
    c.loop-number.invariant.extends c.requires.scope counted all c.loop-number.invariant.typed
    c.in_ok-output.ensures.is c.in_ok-result.ensures.is same) c.same.ensures
