use Rattle.std.proofs.Common.{refl}
use Rattle.std.proofs.lemmas.Result.{err_from_is_err_and}
use Rattle.tt_kinds.specs.Label.{triple_record}
use Rattle.tt_interner.proofs.Growth.{Extends-trans, IsPart-grows}
use Rattle.tt_kinds.specs.Values.{triple_shape}
use Rattle.tt_fold.proofs.RecordSteps.{three-first, three-second, three-third, three_first_fails, three_second_fails}
use Rattle.tt_fold.proofs.RecordSteps.{three_third_fails, three_folds}
use Rattle.tt_fold.proofs.containers.Tuple3TypeFoldable.fold_core.Goals as goal

pub fold_core-requires-clause-value : goal.fold_core-requires-clause-value
fold_core-requires-clause-value g c =
    three-first _ triple_record (g.A.TypeVisitable.shape c.args.self.0) (g.B.TypeVisitable.shape c.args.self.1) (g.C.TypeVisitable.shape c.args.self.2) c.requires.value

pub returns-in_err-new_first-clause-folds : goal.returns-in_err-new_first-clause-folds
returns-in_err-new_first-clause-folds g c =
    let p = err_from_is_err_and c.from_residual.result c.from_residual.ensures.1 in
    rw (p.1, p.2) (three_first_fails (triple_shape g.A.TypeVisitable.shape g.B.TypeVisitable.shape g.C.TypeVisitable.shape) g.A.TypeVisitable.shape g.B.TypeVisitable.shape g.C.TypeVisitable.shape triple_record c.args.self c.args.self.0 c.args.self.1 c.args.self.2 refl c.in_err-new_first.ensures.folds)

pub fold_core-requires-2-clause-value : goal.fold_core-requires-2-clause-value
fold_core-requires-2-clause-value g c =
    IsPart-grows _ _ c.in_ok-new_first.ensures.folds.extends.rows _ (three-second _ triple_record (g.A.TypeVisitable.shape c.args.self.0) (g.B.TypeVisitable.shape c.args.self.1) (g.C.TypeVisitable.shape c.args.self.2) c.requires.value)

pub returns-in_err-new_second-clause-folds : goal.returns-in_err-new_second-clause-folds
returns-in_err-new_second-clause-folds g c =
    let p = err_from_is_err_and c.from_residual-in_err-new_second.result c.from_residual-in_err-new_second.ensures.1 in
    rw (p.1, p.2) (three_second_fails (triple_shape g.A.TypeVisitable.shape g.B.TypeVisitable.shape g.C.TypeVisitable.shape) g.A.TypeVisitable.shape g.B.TypeVisitable.shape g.C.TypeVisitable.shape triple_record c.args.self c.args.self.0 c.in_ok-new_first.new_first c.args.self.1 c.args.self.2 refl (three-second _ triple_record (g.A.TypeVisitable.shape c.args.self.0) (g.B.TypeVisitable.shape c.args.self.1) (g.C.TypeVisitable.shape c.args.self.2) c.requires.value) c.in_ok-new_first.ensures.folds c.in_err-new_second.ensures.folds)

pub fold_core-requires-3-clause-value : goal.fold_core-requires-3-clause-value
fold_core-requires-3-clause-value g c =
    IsPart-grows _ _ (Extends-trans c.in_ok-new_first.ensures.folds.extends c.in_ok-new_second.ensures.folds.extends).rows _ (three-third _ triple_record (g.A.TypeVisitable.shape c.args.self.0) (g.B.TypeVisitable.shape c.args.self.1) (g.C.TypeVisitable.shape c.args.self.2) c.requires.value)

pub returns-in_err-new_third-clause-folds : goal.returns-in_err-new_third-clause-folds
returns-in_err-new_third-clause-folds g c =
    let p = err_from_is_err_and c.from_residual-in_err-new_third.result c.from_residual-in_err-new_third.ensures.1 in
    rw (p.1, p.2) (three_third_fails (triple_shape g.A.TypeVisitable.shape g.B.TypeVisitable.shape g.C.TypeVisitable.shape) g.A.TypeVisitable.shape g.B.TypeVisitable.shape g.C.TypeVisitable.shape triple_record c.args.self c.args.self.0 c.in_ok-new_first.new_first c.args.self.1 c.in_ok-new_second.new_second c.args.self.2 refl (three-second _ triple_record (g.A.TypeVisitable.shape c.args.self.0) (g.B.TypeVisitable.shape c.args.self.1) (g.C.TypeVisitable.shape c.args.self.2) c.requires.value) (three-third _ triple_record (g.A.TypeVisitable.shape c.args.self.0) (g.B.TypeVisitable.shape c.args.self.1) (g.C.TypeVisitable.shape c.args.self.2) c.requires.value) c.in_ok-new_first.ensures.folds c.in_ok-new_second.ensures.folds c.in_err-new_third.ensures.folds)

pub returns-clause-folds : goal.returns-clause-folds
returns-clause-folds g c =
    three_folds (triple_shape g.A.TypeVisitable.shape g.B.TypeVisitable.shape g.C.TypeVisitable.shape) g.A.TypeVisitable.shape g.B.TypeVisitable.shape g.C.TypeVisitable.shape triple_record (record { same = λ f g. refl; named = λ size. tt }) c.args.self _ c.args.self.0 c.in_ok-new_first.new_first c.args.self.1 c.in_ok-new_second.new_second c.args.self.2 c.in_ok-new_third.new_third refl refl (three-second _ triple_record (g.A.TypeVisitable.shape c.args.self.0) (g.B.TypeVisitable.shape c.args.self.1) (g.C.TypeVisitable.shape c.args.self.2) c.requires.value) (three-third _ triple_record (g.A.TypeVisitable.shape c.args.self.0) (g.B.TypeVisitable.shape c.args.self.1) (g.C.TypeVisitable.shape c.args.self.2) c.requires.value) c.in_ok-new_first.ensures.folds c.in_ok-new_second.ensures.folds c.in_ok-new_third.ensures.folds
