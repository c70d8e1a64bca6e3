use Rattle.std.proofs.Common.{refl}
use Rattle.std.proofs.lemmas.Result.{err_from_is_err_and}
use Rattle.tt_kinds.specs.Label.{present_record, absent_record}
use Rattle.tt_kinds.specs.Values.{result_shape}
use Rattle.tt_fold.proofs.RecordSteps.{one-inner, one_fails, one_folds}
use Rattle.tt_fold.proofs.containers.ResultTypeFoldable.fold_core.Goals as goal

pub fold_core-requires-clause-value : goal.fold_core-requires-clause-value
fold_core-requires-clause-value g c =
    one-inner _ present_record (g.T.TypeVisitable.shape c.in-Ok.value) (rw c.in-Ok.is at c.requires.value)

pub returns-in_err-new_value-in-Ok-clause-folds : goal.returns-in_err-new_value-in-Ok-clause-folds
returns-in_err-new_value-in-Ok-clause-folds g c =
    let p = err_from_is_err_and c.from_residual.result c.from_residual.ensures.1 in
    rw (p.1, p.2) (one_fails (result_shape g.T.TypeVisitable.shape g.E.TypeVisitable.shape) g.T.TypeVisitable.shape present_record c.args.self c.in-Ok.value (rw c.in-Ok.is refl) c.in_err-new_value-in-Ok.ensures.folds)

pub returns-in_ok-new_value-in-Ok-clause-folds : goal.returns-in_ok-new_value-in-Ok-clause-folds
returns-in_ok-new_value-in-Ok-clause-folds g c =
    one_folds (result_shape g.T.TypeVisitable.shape g.E.TypeVisitable.shape) g.T.TypeVisitable.shape present_record (record { same = λ f g. refl; named = λ size. tt }) c.args.self _ c.in-Ok.value c.in_ok-new_value-in-Ok.new_value (rw c.in-Ok.is refl) refl c.in_ok-new_value-in-Ok.ensures.folds

pub fold_core-requires-in-Err-clause-value : goal.fold_core-requires-in-Err-clause-value
fold_core-requires-in-Err-clause-value g c =
    one-inner _ absent_record (g.E.TypeVisitable.shape c.in-Err.error) (rw c.in-Err.is at c.requires.value)

pub returns-in_err-new_error-in-Err-clause-folds : goal.returns-in_err-new_error-in-Err-clause-folds
returns-in_err-new_error-in-Err-clause-folds g c =
    let p = err_from_is_err_and c.from_residual-in_err-new_error-in-Err.result c.from_residual-in_err-new_error-in-Err.ensures.1 in
    rw (p.1, p.2) (one_fails (result_shape g.T.TypeVisitable.shape g.E.TypeVisitable.shape) g.E.TypeVisitable.shape absent_record c.args.self c.in-Err.error (rw c.in-Err.is refl) c.in_err-new_error-in-Err.ensures.folds)

pub returns-in_ok-new_error-in-Err-clause-folds : goal.returns-in_ok-new_error-in-Err-clause-folds
returns-in_ok-new_error-in-Err-clause-folds g c =
    one_folds (result_shape g.T.TypeVisitable.shape g.E.TypeVisitable.shape) g.E.TypeVisitable.shape absent_record (record { same = λ f g. refl; named = λ size. tt }) c.args.self _ c.in-Err.error c.in_ok-new_error-in-Err.new_error (rw c.in-Err.is refl) refl c.in_ok-new_error-in-Err.ensures.folds
