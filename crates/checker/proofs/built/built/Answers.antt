use Rattle.std.proofs.Common.{Some, ap, sym, ◌∙◌}
use Rattle.std.specs.Prelude.{slice_get}
use Rattle.tt_kinds.specs.Kinds.{ty_shape}
use Rattle.tt_fold.specs.Steps.{tree_in}
use Rattle.checker.specs.Scope.{around, trees}
use Rattle.checker.specs.TypeTrees.{tuple_of}
use Rattle.checker.specs.Written.{part}
use Rattle.checker.proofs.BuiltLaws.{argument_typed, for_ok, for_ok_both, literal_typed, reference_typed, tuple_typed}
use Rattle.checker.proofs.BuiltLaws.{variable_typed}
use Rattle.checker.proofs.built.built.Goals as goal

pub returns-in-Literal-clause-typed : goal.returns-in-Literal-clause-typed
returns-in-Literal-clause-typed c =
    rw c.in-Literal.is (for_ok c.literal_type.result
    (λ ty is. literal_typed (around c.args.cx.now c.args.scope) c.args.number c.in-Literal.literal
    (tree_in c.literal_type.new.cx.rows (ty_shape ty)) is)
    c.literal_type.ensures.is)

pub returns-in_ok-input-in-Argument-clause-typed : goal.returns-in_ok-input-in-Argument-clause-typed
returns-in_ok-input-in-Argument-clause-typed c =
    let there = sym (ap (λ xs. slice_get xs c.in-Argument.argument) c.as_slice.ensures.value) ∙ c.in_ok-input-in-Argument.ensures in
    rw c.in-Argument.is (for_ok c.written.result
    (λ ty written. argument_typed c.args.cx.now c.args.scope c.args.number c.in-Argument.argument c.in_ok-input-in-Argument.input ty
    there written)
    c.written.ensures.is)

pub returns-in-Let-clause-typed : goal.returns-in-Let-clause-typed
returns-in-Let-clause-typed c =
    let n = c.in-Local.binding in
    let declared = c.in_ok-declared-in-Local in
    let there = sym (ap (λ xs. slice_get xs n) c.as_slice-in-Local.ensures.value) ∙ declared.ensures ∙ ap Some c.in-Let.is in
    rw c.in-Local.is (for_ok_both c.operand.result
    (λ ty before found. variable_typed c.args.cx.now c.args.scope c.args.number n ty
    (c.in-Let.field-0, c.in-Let.field-1, there) before found)
    c.operand.ensures.before c.operand.ensures.is)

pub returns-in_ok-items-in-Tuple-clause-typed : goal.returns-in_ok-items-in-Tuple-clause-typed
returns-in_ok-items-in-Tuple-clause-typed c =
    let old = c.args.cx.now in
    let items = c.in_ok-items-in-Tuple.items.items in
    let numbers = c.in_ok-numbers-in-Tuple.numbers.now in
    let same = c.in_ok-numbers-in-Tuple.ensures ∙ ap (λ xs. part xs c.in-Tuple.items) c.as_slice-in-Tuple.ensures.value in
    let lent = ap (λ xs. tuple_of (trees old.rows xs)) c.as_slice-in-Tuple-2.ensures.value in
    rw c.in-Tuple.is (for_ok c.tuple_of.result (λ ty is.
    tuple_typed old c.tuple_of.new.cx c.args.scope c.args.number c.in-Tuple.items numbers items ty same
    c.in_ok-items-in-Tuple.ensures.are (is ∙ lent)) c.tuple_of.ensures.is)

pub returns-in_ok-referent-in-Reference-clause-typed : goal.returns-in_ok-referent-in-Reference-clause-typed
returns-in_ok-referent-in-Reference-clause-typed c =
    let found = c.in_ok-referent-in-Reference in
    rw c.in-Reference.is (for_ok c.reference_to.result (λ ty is.
    reference_typed c.args.cx.now c.reference_to.new.cx c.args.scope c.args.number c.in-Reference.value found.referent ty
    found.ensures.before found.ensures.is is) c.reference_to.ensures.is)
