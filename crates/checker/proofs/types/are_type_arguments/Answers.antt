use Rattle.std.proofs.Common.{◌≡◌, length, true, ap, refl, sym, subst, add-one, ◌∙◌}
use Rattle.std.specs.Prelude.{is_some}
use Rattle.std.proofs.lemmas.Bool.{eqb-true}
use Rattle.std.proofs.lemmas.Option.{slice_get_read}
use Rattle.tt_kinds.specs.Kinds.{args_shape}
use Rattle.tt_fold.specs.Steps.{tree_in}
use Rattle.checker.proofs.ArgumentLaws.{AreTypesBelow, are_types, arguments_listed, types_next, unflagged_known}
use Rattle.checker.proofs.types.are_type_arguments.Goals as goal

pub loop-index-preserved : goal.loop-index-preserved
loop-index-preserved c =
    let items = c.as_slice-items.result.now in
    let i = c.loop-index.index in
    let x = c.index-items-index.result in
    let there = slice_get_read items (length items) i x refl c.loop-index-test.true c.index-items-index.is in
    let known : is_some c.as_type.result ≡ true = c.if-is_none.ensures in
    let next = types_next items i x c.loop-index.invariant there (ap is_some (sym c.as_type.ensures) ∙ known) in
    subst (AreTypesBelow items) (sym (add-one i)) next

pub returns-then-has_infer-clause-listed : goal.returns-then-has_infer-clause-listed
returns-then-has_infer-clause-listed c =
    arguments_listed c.args.cx.now c.args.args c.as_slice-items.result.now c.as_slice-items.ensures

pub returns-then-is_none-clause-listed : goal.returns-then-is_none-clause-listed
returns-then-is_none-clause-listed c =
    arguments_listed c.args.cx.now c.args.args c.as_slice-items.result.now c.as_slice-items.ensures

pub returns-clause-listed : goal.returns-clause-listed
returns-clause-listed c = arguments_listed c.args.cx.now c.args.args c.as_slice-items.result.now c.as_slice-items.ensures

pub returns-clause-types : goal.returns-clause-types
returns-clause-types c = λ same.
    are_types c.args.cx.now c.args.args c.as_slice-items.result.now c.as_slice-items.ensures c.loop-index.index c.args.count
    (unflagged_known (tree_in c.args.cx.now.rows (args_shape c.args.args)) _ c.has_infer.ensures c.if-has_infer.false) c.loop-index.invariant c.loop-index-test.false (eqb-true (length c.as_slice-items.result.now) c.args.count same)
