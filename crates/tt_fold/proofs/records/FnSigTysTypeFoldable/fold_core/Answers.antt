use Rattle.std.proofs.Common.{refl}
use Rattle.std.proofs.lemmas.Result.{err_from_is_err_and}
use Rattle.tt_kinds.specs.Label.{fn_sig_tys_record}
use Rattle.tt_kinds.specs.Kinds.{fn_sig_tys_shape, tys_shape}
use Rattle.tt_fold.proofs.RecordSteps.{one-inner, one_fails, one_folds}
use Rattle.tt_fold.proofs.records.FnSigTysTypeFoldable.fold_core.Goals as goal

pub fold_core-requires-clause-value : goal.fold_core-requires-clause-value
fold_core-requires-clause-value g c =
    one-inner _ fn_sig_tys_record (tys_shape (c.args.self.inputs_and_output)) c.requires.value

pub returns-in_err-inputs_and_output-clause-folds : goal.returns-in_err-inputs_and_output-clause-folds
returns-in_err-inputs_and_output-clause-folds g c =
    let p = err_from_is_err_and c.from_residual.result c.from_residual.ensures.1 in
    rw (p.1, p.2) (one_fails fn_sig_tys_shape tys_shape fn_sig_tys_record c.args.self (c.args.self.inputs_and_output) refl c.in_err-inputs_and_output.ensures.folds)

pub returns-clause-folds : goal.returns-clause-folds
returns-clause-folds g c =
    one_folds fn_sig_tys_shape tys_shape fn_sig_tys_record (record { same = λ f g. refl; named = λ size. tt }) c.args.self _ (c.args.self.inputs_and_output) c.in_ok-inputs_and_output.inputs_and_output refl refl c.in_ok-inputs_and_output.ensures.folds
