use Rattle.std.proofs.Common.{refl}
use Rattle.std.proofs.lemmas.Result.{err_from_is_err_and}
use Rattle.tt_kinds.specs.Label.{witness_types_record}
use Rattle.tt_kinds.specs.Kinds.{tys_shape}
use Rattle.tt_kinds.specs.Values.{assumptions_shape, witness_types_shape}
use Rattle.tt_interner.proofs.Growth.{IsPart-grows}
use Rattle.tt_fold.proofs.RecordSteps.{two-first, two-second, two_first_fails, two_second_fails, two_folds}
use Rattle.tt_fold.proofs.records.CoroutineWitnessTypesTypeFoldable.fold_core.Goals as goal

pub fold_core-requires-clause-value : goal.fold_core-requires-clause-value
fold_core-requires-clause-value g c =
    two-first _ witness_types_record (tys_shape (c.args.self.types)) (assumptions_shape (c.args.self.assumptions)) c.requires.value

pub returns-in_err-types-clause-folds : goal.returns-in_err-types-clause-folds
returns-in_err-types-clause-folds g c =
    let p = err_from_is_err_and c.from_residual.result c.from_residual.ensures.1 in
    rw (p.1, p.2) (two_first_fails witness_types_shape tys_shape assumptions_shape witness_types_record c.args.self (c.args.self.types) (c.args.self.assumptions) refl c.in_err-types.ensures.folds)

pub fold_core-requires-2-clause-value : goal.fold_core-requires-2-clause-value
fold_core-requires-2-clause-value g c =
    IsPart-grows _ _ c.in_ok-types.ensures.folds.extends.rows (assumptions_shape c.args.self.assumptions) (two-second _ witness_types_record (tys_shape (c.args.self.types)) (assumptions_shape (c.args.self.assumptions)) c.requires.value)

pub returns-in_err-assumptions-clause-folds : goal.returns-in_err-assumptions-clause-folds
returns-in_err-assumptions-clause-folds g c =
    let p = err_from_is_err_and c.from_residual-in_err-assumptions.result c.from_residual-in_err-assumptions.ensures.1 in
    rw (p.1, p.2) (two_second_fails witness_types_shape tys_shape assumptions_shape witness_types_record c.args.self (c.args.self.types) c.in_ok-types.types (c.args.self.assumptions) refl (two-second _ witness_types_record (tys_shape (c.args.self.types)) (assumptions_shape (c.args.self.assumptions)) c.requires.value) c.in_ok-types.ensures.folds c.in_err-assumptions.ensures.folds)

pub returns-clause-folds : goal.returns-clause-folds
returns-clause-folds g c =
    two_folds witness_types_shape tys_shape assumptions_shape witness_types_record (record { same = λ f g. refl; named = λ size. tt }) c.args.self _ (c.args.self.types) c.in_ok-types.types (c.args.self.assumptions) c.in_ok-assumptions.assumptions refl refl (two-second _ witness_types_record (tys_shape (c.args.self.types)) (assumptions_shape (c.args.self.assumptions)) c.requires.value) c.in_ok-types.ensures.folds c.in_ok-assumptions.ensures.folds
