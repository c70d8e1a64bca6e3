use Rattle.std.proofs.Common.{refl}
use Rattle.std.proofs.lemmas.Result.{err_from_is_err_and}
use Rattle.tt_kinds.specs.Label.{param_env_record}
use Rattle.tt_kinds.specs.Kinds.{clauses_shape}
use Rattle.tt_kinds.specs.Values.{param_env_shape}
use Rattle.tt_fold.proofs.RecordSteps.{one-inner, one_fails, one_folds}
use Rattle.tt_fold.proofs.records.ParamEnvTypeFoldable.fold_core.Goals as goal

pub fold_core-requires-clause-value : goal.fold_core-requires-clause-value
fold_core-requires-clause-value g c =
    one-inner _ param_env_record (clauses_shape (c.args.self.caller_bounds)) c.requires.value

pub returns-in_err-caller_bounds-clause-folds : goal.returns-in_err-caller_bounds-clause-folds
returns-in_err-caller_bounds-clause-folds g c =
    let p = err_from_is_err_and c.from_residual.result c.from_residual.ensures.1 in
    rw (p.1, p.2) (one_fails param_env_shape clauses_shape param_env_record c.args.self (c.args.self.caller_bounds) refl c.in_err-caller_bounds.ensures.folds)

pub returns-clause-folds : goal.returns-clause-folds
returns-clause-folds g c =
    one_folds param_env_shape clauses_shape param_env_record (record { same = λ f g. refl; named = λ size. tt }) c.args.self _ (c.args.self.caller_bounds) c.in_ok-caller_bounds.caller_bounds refl refl c.in_ok-caller_bounds.ensures.folds
