use Rattle.std.proofs.Common.{refl}
use Rattle.std.proofs.lemmas.Result.{err_from_is_err_and}
use Rattle.tt_kinds.specs.Label.{projection_record}
use Rattle.tt_kinds.specs.Kinds.{args_shape, term_shape}
use Rattle.tt_kinds.specs.Values.{projection_shape}
use Rattle.tt_interner.proofs.Growth.{IsPart-grows}
use Rattle.tt_fold.proofs.RecordSteps.{two-first, two-second, two_first_fails, two_second_fails, two_folds}
use Rattle.tt_fold.proofs.records.ProjectionPredicateTypeFoldable.fold_core.Goals as goal

pub fold_core-requires-clause-value : goal.fold_core-requires-clause-value
fold_core-requires-clause-value g c =
    two-first _ (projection_record c.args.self.projection_term.def_id.number) (args_shape (c.args.self.projection_term.args)) (term_shape (c.args.self.term)) c.requires.value

pub returns-in_err-args-clause-folds : goal.returns-in_err-args-clause-folds
returns-in_err-args-clause-folds g c =
    let p = err_from_is_err_and c.from_residual.result c.from_residual.ensures.1 in
    rw (p.1, p.2) (two_first_fails projection_shape args_shape term_shape (projection_record c.args.self.projection_term.def_id.number) c.args.self (c.args.self.projection_term.args) (c.args.self.term) refl c.in_err-args.ensures.folds)

pub fold_core-requires-2-clause-value : goal.fold_core-requires-2-clause-value
fold_core-requires-2-clause-value g c =
    IsPart-grows _ _ c.in_ok-args.ensures.folds.extends.rows _ (two-second _ (projection_record c.args.self.projection_term.def_id.number) (args_shape (c.args.self.projection_term.args)) (term_shape (c.args.self.term)) c.requires.value)

pub returns-in_err-term-clause-folds : goal.returns-in_err-term-clause-folds
returns-in_err-term-clause-folds g c =
    let p = err_from_is_err_and c.from_residual-in_err-term.result c.from_residual-in_err-term.ensures.1 in
    rw (p.1, p.2) (two_second_fails projection_shape args_shape term_shape (projection_record c.args.self.projection_term.def_id.number) c.args.self (c.args.self.projection_term.args) c.in_ok-args.args (c.args.self.term) refl (two-second _ (projection_record c.args.self.projection_term.def_id.number) (args_shape (c.args.self.projection_term.args)) (term_shape (c.args.self.term)) c.requires.value) c.in_ok-args.ensures.folds c.in_err-term.ensures.folds)

pub returns-clause-folds : goal.returns-clause-folds
returns-clause-folds g c =
    two_folds projection_shape args_shape term_shape (projection_record c.args.self.projection_term.def_id.number) (record { same = λ f g. refl; named = λ size. tt }) c.args.self _ (c.args.self.projection_term.args) c.in_ok-args.args (c.args.self.term) c.in_ok-term.term refl refl (two-second _ (projection_record c.args.self.projection_term.def_id.number) (args_shape (c.args.self.projection_term.args)) (term_shape (c.args.self.term)) c.requires.value) c.in_ok-args.ensures.folds c.in_ok-term.ensures.folds
