use Rattle.std.proofs.Common.{refl}
use Rattle.std.proofs.lemmas.Result.{err_from_is_err_and}
use Rattle.tt_kinds.specs.Label.{pair_record}
use Rattle.tt_interner.proofs.Growth.{IsPart-grows}
use Rattle.tt_kinds.specs.Values.{tuple_shape}
use Rattle.tt_fold.proofs.RecordSteps.{two-first, two-second, two_first_fails, two_second_fails, two_folds}
use Rattle.tt_fold.proofs.containers.Tuple2TypeFoldable.fold_core.Goals as goal

pub fold_core-requires-clause-value : goal.fold_core-requires-clause-value
fold_core-requires-clause-value g c =
    two-first _ pair_record (g.A.TypeVisitable.shape c.args.self.0) (g.B.TypeVisitable.shape c.args.self.1) c.requires.value

pub returns-in_err-new_first-clause-folds : goal.returns-in_err-new_first-clause-folds
returns-in_err-new_first-clause-folds g c =
    let p = err_from_is_err_and c.from_residual.result c.from_residual.ensures.1 in
    rw (p.1, p.2) (two_first_fails (tuple_shape g.A.TypeVisitable.shape g.B.TypeVisitable.shape) g.A.TypeVisitable.shape g.B.TypeVisitable.shape pair_record c.args.self c.args.self.0 c.args.self.1 refl c.in_err-new_first.ensures.folds)

pub fold_core-requires-2-clause-value : goal.fold_core-requires-2-clause-value
fold_core-requires-2-clause-value g c =
    IsPart-grows _ _ c.in_ok-new_first.ensures.folds.extends.rows _ (two-second _ pair_record (g.A.TypeVisitable.shape c.args.self.0) (g.B.TypeVisitable.shape c.args.self.1) c.requires.value)

pub returns-in_err-new_second-clause-folds : goal.returns-in_err-new_second-clause-folds
returns-in_err-new_second-clause-folds g c =
    let p = err_from_is_err_and c.from_residual-in_err-new_second.result c.from_residual-in_err-new_second.ensures.1 in
    rw (p.1, p.2) (two_second_fails (tuple_shape g.A.TypeVisitable.shape g.B.TypeVisitable.shape) g.A.TypeVisitable.shape g.B.TypeVisitable.shape pair_record c.args.self c.args.self.0 c.in_ok-new_first.new_first c.args.self.1 refl (two-second _ pair_record (g.A.TypeVisitable.shape c.args.self.0) (g.B.TypeVisitable.shape c.args.self.1) c.requires.value) c.in_ok-new_first.ensures.folds c.in_err-new_second.ensures.folds)

pub returns-clause-folds : goal.returns-clause-folds
returns-clause-folds g c =
    two_folds (tuple_shape g.A.TypeVisitable.shape g.B.TypeVisitable.shape) g.A.TypeVisitable.shape g.B.TypeVisitable.shape pair_record (record { same = λ f g. refl; named = λ size. tt }) c.args.self _ c.args.self.0 c.in_ok-new_first.new_first c.args.self.1 c.in_ok-new_second.new_second refl refl (two-second _ pair_record (g.A.TypeVisitable.shape c.args.self.0) (g.B.TypeVisitable.shape c.args.self.1) c.requires.value) c.in_ok-new_first.ensures.folds c.in_ok-new_second.ensures.folds
