use Rattle.std.proofs.Common.{refl}
use Rattle.std.proofs.lemmas.Result.{err_from_is_err_and}
use Rattle.tt_kinds.specs.Label.{alias_term_record}
use Rattle.tt_kinds.specs.Kinds.{args_shape}
use Rattle.tt_kinds.specs.Values.{alias_term_shape}
use Rattle.tt_fold.proofs.RecordSteps.{one-inner, one_fails, one_folds}
use Rattle.tt_fold.proofs.records.AliasTermTypeFoldable.fold_core.Goals as goal

pub fold_core-requires-clause-value : goal.fold_core-requires-clause-value
fold_core-requires-clause-value g c =
    one-inner _ (alias_term_record c.args.self.def_id.number) (args_shape (c.args.self.args)) c.requires.value

pub returns-in_err-args-clause-folds : goal.returns-in_err-args-clause-folds
returns-in_err-args-clause-folds g c =
    let p = err_from_is_err_and c.from_residual.result c.from_residual.ensures.1 in
    rw (p.1, p.2) (one_fails alias_term_shape args_shape (alias_term_record c.args.self.def_id.number) c.args.self (c.args.self.args) refl c.in_err-args.ensures.folds)

pub returns-clause-folds : goal.returns-clause-folds
returns-clause-folds g c =
    one_folds alias_term_shape args_shape (alias_term_record c.args.self.def_id.number) (record { same = λ f g. refl; named = λ size. tt }) c.args.self _ (c.args.self.args) c.in_ok-args.args refl refl c.in_ok-args.ensures.folds
