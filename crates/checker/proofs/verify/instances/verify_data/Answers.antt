use Rattle.std.proofs.Common.{ap, ◌∙◌}
use Rattle.checker.specs.Written.{part}
use Rattle.checker.proofs.BuiltLaws.{on_ok}
use Rattle.checker.proofs.CallLaws.{data_typed}
use Rattle.checker.proofs.verify.instances.verify_data.Goals as goal

pub returns-clause-typed : goal.returns-clause-typed
returns-clause-typed c =
    let is = rw c.in-Some-2.is at c.in_ok-args.ensures.is in
    let fields = c.as_slice-2.ensures.value ∙ c.in_ok-types.ensures in
    let same = c.in_ok-values.ensures ∙ ap (λ xs. part xs c.args.fields) c.as_slice.ensures.value in
    on_ok c.verify_each.result (λ fit.
    data_typed c.args.cx.now c.args.scope c.in-Some-2.args c.args.number c.args.data c.args.fields c.in-Some.item.now c.args.ty
    c.as_slice-2.result.now c.in_ok-values.values.now is fields same fit) c.verify_each.ensures.fit
