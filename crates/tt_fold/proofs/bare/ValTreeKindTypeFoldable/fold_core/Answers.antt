use Rattle.std.proofs.Common.{refl}
use Rattle.std.proofs.lemmas.Result.{err_from_is_err_and}
use Rattle.tt_kinds.specs.Label.{bare_const_record, leaf_const, branch_const}
use Rattle.tt_kinds.specs.Kinds.{consts_shape}
use Rattle.tt_kinds.specs.Bare.{valtree_kind_shape}
use Rattle.tt_fold.proofs.RecordSteps.{one-inner, one_fails, one_folds, none_folds}
use Rattle.tt_fold.proofs.bare.ValTreeKindTypeFoldable.fold_core.Goals as goal

pub fold_core-requires-clause-value : goal.fold_core-requires-clause-value
fold_core-requires-clause-value g c =
    one-inner _ (bare_const_record branch_const) (consts_shape c.in-Branch.values) (rw c.in-Branch.is at c.requires.value)

pub returns-in_err-new_values-in-Branch-clause-folds : goal.returns-in_err-new_values-in-Branch-clause-folds
returns-in_err-new_values-in-Branch-clause-folds g c =
    let p = err_from_is_err_and c.from_residual.result c.from_residual.ensures.1 in
    rw (p.1, p.2) (one_fails valtree_kind_shape consts_shape (bare_const_record branch_const) c.args.self c.in-Branch.values (rw c.in-Branch.is refl) c.in_err-new_values-in-Branch.ensures.folds)

pub returns-in_ok-new_values-in-Branch-clause-folds : goal.returns-in_ok-new_values-in-Branch-clause-folds
returns-in_ok-new_values-in-Branch-clause-folds g c =
    one_folds valtree_kind_shape consts_shape (bare_const_record branch_const) (record { same = λ f g. refl; named = λ size. tt }) c.args.self _ c.in-Branch.values c.in_ok-new_values-in-Branch.new_values (rw c.in-Branch.is refl) refl c.in_ok-new_values-in-Branch.ensures.folds

pub returns-in-Leaf-clause-folds : goal.returns-in-Leaf-clause-folds
returns-in-Leaf-clause-folds g c =
    none_folds valtree_kind_shape (bare_const_record (leaf_const c.in-Leaf.leaf.bits c.in-Leaf.leaf.size)) (record { same = λ f g. refl; named = λ size. tt }) c.args.self _ (rw c.in-Leaf.is refl) refl c.requires.state
