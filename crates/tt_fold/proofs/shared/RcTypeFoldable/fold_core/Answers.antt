use Rattle.std.proofs.Common.{refl}
use Rattle.std.proofs.lemmas.Result.{err_from_is_err_and}
use Rattle.tt_kinds.specs.Label.{present_record}
use Rattle.tt_visit.specs.Containers.{shared_shape}
use Rattle.tt_fold.proofs.WantedLaws.{memory_unbuilt}
use Rattle.tt_fold.proofs.RecordSteps.{one-inner, one_fails, one_folds}
use Rattle.tt_fold.proofs.BoxSteps.{one_stops, one_not_built}
use Rattle.tt_fold.proofs.shared.RcTypeFoldable.fold_core.Goals as goal

pub returns-in_err-value-clause-folds : goal.returns-in_err-value-clause-folds
returns-in_err-value-clause-folds g c =
    let p = err_from_is_err_and c.from_residual.result c.from_residual.ensures.1 in
    rw p.1 (one_stops (λ r. shared_shape g.T.TypeVisitable.shape r.value) present_record (g.T.TypeVisitable.shape c.args.self.value) c.args.self refl c.requires.state
    (λ u. (c.in_err-value.field-0.0, (p.2, memory_unbuilt c.args.cx.now u _ c.in_err-value.ensures.memory))))

pub fold_core-requires-clause-value : goal.fold_core-requires-clause-value
fold_core-requires-clause-value g c =
    rw c.in_ok-value.ensures.ok (one-inner _ present_record (g.T.TypeVisitable.shape c.args.self.value) c.requires.value)

pub returns-in_err-new_value-clause-folds : goal.returns-in_err-new_value-clause-folds
returns-in_err-new_value-clause-folds g c =
    let p = err_from_is_err_and c.from_residual-in_err-new_value.result c.from_residual-in_err-new_value.ensures.1 in
    rw (p.1, p.2) (one_fails (λ r. shared_shape g.T.TypeVisitable.shape r.value) g.T.TypeVisitable.shape present_record c.args.self c.in_ok-value.value (rw c.in_ok-value.ensures.ok refl) c.in_err-new_value.ensures.folds)

pub returns-in_err-new_shared-clause-folds : goal.returns-in_err-new_shared-clause-folds
returns-in_err-new_shared-clause-folds g c =
    let p = err_from_is_err_and c.from_residual-in_err-new_shared.result c.from_residual-in_err-new_shared.ensures.1 in
    rw p.1 (one_not_built (λ r. shared_shape g.T.TypeVisitable.shape r.value) g.T.TypeVisitable.shape present_record c.args.self c.in_ok-value.value c.in_ok-new_value.new_value (rw c.in_ok-value.ensures.ok refl) c.in_ok-new_value.ensures.folds
    (λ u. (c.in_err-new_shared.field-0.0, (p.2, memory_unbuilt c.fold_core.new.cx u _ c.in_err-new_shared.ensures.memory))))

pub returns-clause-folds : goal.returns-clause-folds
returns-clause-folds g c =
    one_folds (λ r. shared_shape g.T.TypeVisitable.shape r.value) g.T.TypeVisitable.shape present_record (record { same = λ f g. refl; named = λ size. tt }) c.args.self c.in_ok-new_shared.new_shared c.in_ok-value.value c.in_ok-new_value.new_value (rw c.in_ok-value.ensures.ok refl) (rw c.in_ok-new_shared.ensures.ok refl) c.in_ok-new_value.ensures.folds
