use Rattle.std.proofs.Common.{refl}
use Rattle.std.proofs.lemmas.Result.{err_from_is_err_and}
use Rattle.std.specs.Box.{boxed_slice_items}
use Rattle.tt_kinds.specs.Values.{sequence_shape}
use Rattle.tt_fold.proofs.BoxSteps.{same_fails, same_folds}
use Rattle.tt_fold.proofs.boxes.BoxedSliceTypeFoldable.fold_core.Goals as goal

pub fold_core-requires-clause-value : goal.fold_core-requires-clause-value
fold_core-requires-clause-value g c = rw c.into_vec.ensures.items c.requires.value

pub returns-in_err-folded-clause-folds : goal.returns-in_err-folded-clause-folds
returns-in_err-folded-clause-folds g c =
    let p = err_from_is_err_and c.from_residual.result c.from_residual.ensures.1 in
    rw (p.1, p.2) (same_fails (λ b. sequence_shape g.T.TypeVisitable.shape (boxed_slice_items b)) (λ v. sequence_shape g.T.TypeVisitable.shape v.items) c.args.self c.into_vec.result (rw c.into_vec.ensures.items refl) c.in_err-folded.ensures.folds)

pub returns-clause-folds : goal.returns-clause-folds
returns-clause-folds g c =
    same_folds (λ b. sequence_shape g.T.TypeVisitable.shape (boxed_slice_items b)) (λ v. sequence_shape g.T.TypeVisitable.shape v.items) c.args.self c.into_boxed_slice.result c.into_vec.result c.in_ok-folded.folded (rw c.into_vec.ensures.items refl) (rw c.into_boxed_slice.ensures.items refl) c.in_ok-folded.ensures.folds
