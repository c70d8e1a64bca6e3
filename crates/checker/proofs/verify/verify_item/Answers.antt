use Rattle.checker.proofs.BuiltLaws.{on_ok}
use Rattle.checker.proofs.TypingLaws.{item_typed}
use Rattle.checker.proofs.verify.verify_item.Goals as goal

pub returns-in-Some : goal.returns-in-Some
returns-in-Some c =
    let value = c.in_ok-found.ensures in
    let whole = c.without_references-whole in
    on_ok c.same.result (λ same.
    item_typed c.args.cx.now c.args.scope c.args.number c.args.value c.args.item c.in_ok-found.found whole.result
    c.in-Some.expected c.args.ty value.before value.is whole.ensures.reaches c.in-Some.ensures.is same) c.same.ensures
