use Rattle.checker.proofs.BuiltLaws.{on_ok}
use Rattle.checker.proofs.TypingLaws.{dereference_typed}
use Rattle.checker.proofs.verify.verify_dereference.Goals as goal

pub returns-clause-typed : goal.returns-clause-typed
returns-clause-typed c =
    let expected = c.in_ok-expected in
    let value = c.in_ok-found.ensures in
    on_ok c.same.result (λ same.
    dereference_typed c.args.cx.now c.reference_to.new.cx c.args.scope c.args.number c.args.value c.in_ok-found.found
    expected.expected c.args.ty value.before value.is expected.ensures.extends value.owned same expected.ensures.is) c.same.ensures
