use Rattle.std.proofs.Common.{refl}
use Rattle.std.proofs.lemmas.Result.{err_from_is_err_and}
use Rattle.tt_kinds.specs.Label.{present_record, absent_record}
use Rattle.tt_kinds.specs.Values.{option_shape}
use Rattle.tt_fold.proofs.RecordSteps.{one-inner, one_fails, one_folds, none_folds}
use Rattle.tt_fold.proofs.containers.OptionTypeFoldable.fold_core.Goals as goal

pub fold_core-requires-clause-value : goal.fold_core-requires-clause-value
fold_core-requires-clause-value g c =
    one-inner _ present_record (g.T.TypeVisitable.shape c.in-Some.value) (rw c.in-Some.is at c.requires.value)

pub returns-in_err-new_value-in-Some-clause-folds : goal.returns-in_err-new_value-in-Some-clause-folds
returns-in_err-new_value-in-Some-clause-folds g c =
    let p = err_from_is_err_and c.from_residual.result c.from_residual.ensures.1 in
    rw (p.1, p.2) (one_fails (option_shape g.T.TypeVisitable.shape) g.T.TypeVisitable.shape present_record c.args.self c.in-Some.value (rw c.in-Some.is refl) c.in_err-new_value-in-Some.ensures.folds)

pub returns-in_ok-new_value-in-Some-clause-folds : goal.returns-in_ok-new_value-in-Some-clause-folds
returns-in_ok-new_value-in-Some-clause-folds g c =
    one_folds (option_shape g.T.TypeVisitable.shape) g.T.TypeVisitable.shape present_record (record { same = λ f g. refl; named = λ size. tt }) c.args.self _ c.in-Some.value c.in_ok-new_value-in-Some.new_value (rw c.in-Some.is refl) refl c.in_ok-new_value-in-Some.ensures.folds

pub returns-in-None-clause-folds : goal.returns-in-None-clause-folds
returns-in-None-clause-folds g c =
    none_folds (option_shape g.T.TypeVisitable.shape) absent_record (record { same = λ f g. refl; named = λ size. tt }) c.args.self _ (rw c.in-None.is refl) refl c.requires.state
