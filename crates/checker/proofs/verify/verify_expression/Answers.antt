use Rattle.checker.specs.Scope.{around}
use Rattle.checker.proofs.BuiltLaws.{on_ok}
use Rattle.checker.proofs.TypingLaws.{has_type, same_typed}
use Rattle.checker.proofs.verify.verify_expression.Goals as goal

pub returns-in_ok-expected-in_default-clause-typed : goal.returns-in_ok-expected-in_default-clause-typed
returns-in_ok-expected-in_default-clause-typed c =
    let old = c.args.cx.now in
    let new = c.built.new.cx in
    let expected = c.in_ok-expected-in_default.expected in
    let built = c.in_ok-expected-in_default.ensures in
    let ty = c.in_ok-ty.ty in
    on_ok c.same.result (λ same. has_type old c.args.scope c.args.number c.args.expression ty c.in_ok-ty.ensures.is c.in_ok-known.ensures c.in_ok-marked.ensures
    (same_typed (around old c.args.scope) old new c.args.number c.args.expression expected ty built.extends c.in_ok-ty.ensures.owned
    same built.typed)) c.same.ensures
