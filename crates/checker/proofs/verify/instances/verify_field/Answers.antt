use Rattle.std.proofs.Common.{◌∙◌, subst}
use Rattle.std.proofs.lemmas.Option.{slice_get_read}
use Rattle.tt_kinds.specs.Kinds.{ty_shape}
use Rattle.tt_fold.specs.Steps.{tree_in}
use Rattle.checker.specs.Scope.{argument_trees, around}
use Rattle.checker.specs.Typing.{HasField, IsInstance}
use Rattle.checker.proofs.BuiltLaws.{on_ok}
use Rattle.checker.proofs.CallLaws.{field_typed}
use Rattle.checker.proofs.verify.instances.verify_field.Goals as goal

pub arguments_of-requires-clause-item : goal.arguments_of-requires-clause-item
arguments_of-requires-clause-item c =
    let items = c.args.scope.program.now.«data» in
    slice_get_read items.items c.len-data-end.result c.loop-data.«data» c.index-item.result.now (c.len-data-end.ensures ∙ items.ok.0)
    c.loop-data-test.true c.index-item.ensures

pub returns-in-Some-clause-typed : goal.returns-in-Some-clause-typed
returns-in-Some-clause-typed c =
    let old = c.args.cx.now in
    let scope = c.args.scope in
    let same = c.loop-data.invariant in
    let args = c.in-Some.args in
    let item = c.index-item.result.now in
    let k = c.loop-data.«data» in
    let value = c.in_ok-found.ensures in
    let whole = c.without_references-whole in
    let found = rw c.in-Some.is at c.in_ok-args.ensures.is in
    let is = subst (λ terms. IsInstance (around terms scope) k item (argument_trees terms args) (tree_in terms.rows (ty_shape whole.result)))
    same found in
    on_ok c.verify_field_of.result (λ has.
    field_typed old scope args c.args.number c.args.value c.args.name k c.in_ok-found.found whole.result c.args.ty item
    value.before value.is whole.ensures.reaches is
    (subst (λ terms. HasField (around terms scope) item (argument_trees terms args) c.args.name (tree_in terms.rows (ty_shape c.args.ty)))
    same has)) c.verify_field_of.ensures.is
