use Rattle.std.proofs.Common.{None, Some}
use Rattle.checker.proofs.BuiltLaws.{on_ok}
use Rattle.checker.proofs.TypingLaws.{let_typed}
use Rattle.checker.proofs.verify.verify_let.Goals as goal

pub returns-in_ok-written-in-Some : goal.returns-in_ok-written-in-Some
returns-in_ok-written-in-Some c =
    let value = c.in_ok-found.ensures in
    rw c.in-Some.is (on_ok c.same-in-Some.result (λ same.
    let_typed c.args.cx.now c.args.scope c.args.number c.args.init (Some c.in-Some.annotation) c.in_ok-found.found c.args.ty
    value.before value.is c.in_ok-same.ensures
    (c.in_ok-written-in-Some.field-0, c.in_ok-written-in-Some.ensures.is, same)) c.same-in-Some.ensures)

pub returns-in-None : goal.returns-in-None
returns-in-None c =
    let value = c.in_ok-found.ensures in
    rw c.in-None.is (let_typed c.args.cx.now c.args.scope c.args.number c.args.init None c.in_ok-found.found c.args.ty value.before
    value.is c.in_ok-same.ensures tt)
