use Rattle.std.proofs.Common.{refl}
use Rattle.std.proofs.lemmas.Result.{err_from_is_err_and}
use Rattle.tt_kinds.specs.Label.{coerce_record}
use Rattle.tt_kinds.specs.Kinds.{ty_shape}
use Rattle.tt_kinds.specs.Values.{coerce_shape}
use Rattle.tt_interner.proofs.Growth.{IsPart-grows}
use Rattle.tt_fold.proofs.RecordSteps.{two-first, two-second, two_first_fails, two_second_fails, two_folds}
use Rattle.tt_fold.proofs.records.CoercePredicateTypeFoldable.fold_core.Goals as goal

pub fold_core-requires-clause-value : goal.fold_core-requires-clause-value
fold_core-requires-clause-value g c =
    two-first _ coerce_record (ty_shape (c.args.self.a)) (ty_shape (c.args.self.b)) c.requires.value

pub returns-in_err-a-clause-folds : goal.returns-in_err-a-clause-folds
returns-in_err-a-clause-folds g c =
    let p = err_from_is_err_and c.from_residual.result c.from_residual.ensures.1 in
    rw (p.1, p.2) (two_first_fails coerce_shape ty_shape ty_shape coerce_record c.args.self (c.args.self.a) (c.args.self.b) refl c.in_err-a.ensures.folds)

pub fold_core-requires-2-clause-value : goal.fold_core-requires-2-clause-value
fold_core-requires-2-clause-value g c =
    IsPart-grows _ _ c.in_ok-a.ensures.folds.extends.rows (ty_shape c.args.self.b) (two-second _ coerce_record (ty_shape (c.args.self.a)) (ty_shape (c.args.self.b)) c.requires.value)

pub returns-in_err-b-clause-folds : goal.returns-in_err-b-clause-folds
returns-in_err-b-clause-folds g c =
    let p = err_from_is_err_and c.from_residual-in_err-b.result c.from_residual-in_err-b.ensures.1 in
    rw (p.1, p.2) (two_second_fails coerce_shape ty_shape ty_shape coerce_record c.args.self (c.args.self.a) c.in_ok-a.a (c.args.self.b) refl (two-second _ coerce_record (ty_shape (c.args.self.a)) (ty_shape (c.args.self.b)) c.requires.value) c.in_ok-a.ensures.folds c.in_err-b.ensures.folds)

pub returns-clause-folds : goal.returns-clause-folds
returns-clause-folds g c =
    two_folds coerce_shape ty_shape ty_shape coerce_record (record { same = λ f g. refl; named = λ size. tt }) c.args.self _ (c.args.self.a) c.in_ok-a.a (c.args.self.b) c.in_ok-b.b refl refl (two-second _ coerce_record (ty_shape (c.args.self.a)) (ty_shape (c.args.self.b)) c.requires.value) c.in_ok-a.ensures.folds c.in_ok-b.ensures.folds
