use Rattle.std.proofs.Common.{refl}
use Rattle.std.proofs.lemmas.Result.{err_from_is_err_and}
use Rattle.tt_kinds.specs.Label.{outlives_record}
use Rattle.tt_kinds.specs.Kinds.{region_shape}
use Rattle.tt_kinds.specs.Values.{outlives_shape}
use Rattle.tt_interner.proofs.Growth.{IsPart-grows}
use Rattle.tt_fold.proofs.RecordSteps.{two-first, two-second, two_first_fails, two_second_fails, two_folds}
use Rattle.tt_fold.proofs.records.OutlivesPredicateTypeFoldable.fold_core.Goals as goal

pub fold_core-requires-clause-value : goal.fold_core-requires-clause-value
fold_core-requires-clause-value g c =
    two-first _ outlives_record (g.A.TypeVisitable.shape (c.args.self.0)) (region_shape (c.args.self.1)) c.requires.value

pub returns-in_err-value-clause-folds : goal.returns-in_err-value-clause-folds
returns-in_err-value-clause-folds g c =
    let p = err_from_is_err_and c.from_residual.result c.from_residual.ensures.1 in
    rw (p.1, p.2) (two_first_fails (outlives_shape g.A.TypeVisitable.shape) g.A.TypeVisitable.shape region_shape outlives_record c.args.self (c.args.self.0) (c.args.self.1) refl c.in_err-value.ensures.folds)

pub fold_core-requires-2-clause-value : goal.fold_core-requires-2-clause-value
fold_core-requires-2-clause-value g c =
    IsPart-grows _ _ c.in_ok-value.ensures.folds.extends.rows _ (two-second _ outlives_record (g.A.TypeVisitable.shape (c.args.self.0)) (region_shape (c.args.self.1)) c.requires.value)

pub returns-in_err-region-clause-folds : goal.returns-in_err-region-clause-folds
returns-in_err-region-clause-folds g c =
    let p = err_from_is_err_and c.from_residual-in_err-region.result c.from_residual-in_err-region.ensures.1 in
    rw (p.1, p.2) (two_second_fails (outlives_shape g.A.TypeVisitable.shape) g.A.TypeVisitable.shape region_shape outlives_record c.args.self (c.args.self.0) c.in_ok-value.value (c.args.self.1) refl (two-second _ outlives_record (g.A.TypeVisitable.shape (c.args.self.0)) (region_shape (c.args.self.1)) c.requires.value) c.in_ok-value.ensures.folds c.in_err-region.ensures.folds)

pub returns-clause-folds : goal.returns-clause-folds
returns-clause-folds g c =
    two_folds (outlives_shape g.A.TypeVisitable.shape) g.A.TypeVisitable.shape region_shape outlives_record (record { same = λ f g. refl; named = λ size. tt }) c.args.self _ (c.args.self.0) c.in_ok-value.value (c.args.self.1) c.in_ok-region.region refl refl (two-second _ outlives_record (g.A.TypeVisitable.shape (c.args.self.0)) (region_shape (c.args.self.1)) c.requires.value) c.in_ok-value.ensures.folds c.in_ok-region.ensures.folds
