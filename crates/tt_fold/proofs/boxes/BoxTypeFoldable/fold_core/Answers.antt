use Rattle.std.proofs.Common.{refl}
use Rattle.std.proofs.lemmas.Result.{err_from_is_err_and}
use Rattle.tt_kinds.specs.Label.{present_record}
use Rattle.tt_visit.specs.Containers.{boxed_shape}
use Rattle.tt_fold.proofs.WantedLaws.{memory_unbuilt}
use Rattle.tt_fold.proofs.RecordSteps.{one-inner, one_fails, one_folds}
use Rattle.tt_fold.proofs.BoxSteps.{one_not_built}
use Rattle.tt_fold.proofs.boxes.BoxTypeFoldable.fold_core.Goals as goal

pub fold_core-requires-clause-value : goal.fold_core-requires-clause-value
fold_core-requires-clause-value g c =
    one-inner _ present_record (g.T.TypeVisitable.shape c.into_inner-value.result) (rw c.into_inner-value.ensures c.requires.value)

pub returns-in_err-new_value-clause-folds : goal.returns-in_err-new_value-clause-folds
returns-in_err-new_value-clause-folds g c =
    let p = err_from_is_err_and c.from_residual.result c.from_residual.ensures.1 in
    rw (p.1, p.2) (one_fails (λ b. boxed_shape g.T.TypeVisitable.shape b.value) g.T.TypeVisitable.shape present_record c.args.self c.into_inner-value.result (rw c.into_inner-value.ensures refl) c.in_err-new_value.ensures.folds)

pub returns-in_err-new_box-clause-folds : goal.returns-in_err-new_box-clause-folds
returns-in_err-new_box-clause-folds g c =
    let p = err_from_is_err_and c.from_residual-in_err-new_box.result c.from_residual-in_err-new_box.ensures.1 in
    rw p.1 (one_not_built (λ b. boxed_shape g.T.TypeVisitable.shape b.value) g.T.TypeVisitable.shape present_record c.args.self c.into_inner-value.result c.in_ok-new_value.new_value (rw c.into_inner-value.ensures refl) c.in_ok-new_value.ensures.folds
    (λ u. (c.in_err-new_box.field-0.0, (p.2, memory_unbuilt c.fold_core.new.cx u _ c.in_err-new_box.ensures.memory))))

pub returns-clause-folds : goal.returns-clause-folds
returns-clause-folds g c =
    one_folds (λ b. boxed_shape g.T.TypeVisitable.shape b.value) g.T.TypeVisitable.shape present_record (record { same = λ f g. refl; named = λ size. tt }) c.args.self c.in_ok-new_box.new_box c.into_inner-value.result c.in_ok-new_value.new_value (rw c.into_inner-value.ensures refl) (rw c.in_ok-new_box.ensures.ok refl) c.in_ok-new_value.ensures.folds
