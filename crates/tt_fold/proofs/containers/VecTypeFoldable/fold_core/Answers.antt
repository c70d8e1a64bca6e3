use Rattle.std.proofs.Common.{arith, refl}
use Rattle.std.proofs.lemmas.Result.{err_from_is_err_and}
use Rattle.tt_interner.proofs.Growth.{IsPart-grows}
use Rattle.tt_fold.proofs.WantedLaws.{memory_unbuilt}
use Rattle.tt_fold.proofs.VecSteps.{nil-from_length, values_none, value_part, values_more, value_fails, values_stop}
use Rattle.tt_fold.proofs.VecSteps.{values_fold}
use Rattle.tt_fold.proofs.containers.VecTypeFoldable.fold_core.Goals as goal

pub loop-value-init : goal.loop-value-init
loop-value-init g c = values_none g.T.TypeVisitable.shape c.requires.state c.new-values.ensures.items c.into_iter-rest.ensures.rest

pub fold_core-requires-clause-value : goal.fold_core-requires-clause-value
fold_core-requires-clause-value g c =
    IsPart-grows _ _ c.loop-value.invariant.extends.rows _ (value_part g.T.TypeVisitable.shape c.requires.value c.loop-value.invariant c.in-Some.ensures.items)

pub returns-in_err-folded-clause-folds : goal.returns-in_err-folded-clause-folds
returns-in_err-folded-clause-folds g c =
    let p = err_from_is_err_and c.from_residual.result c.from_residual.ensures.1 in
    rw (p.1, p.2) (value_fails g.T.TypeVisitable.shape (λ v. v.items) c.requires.value c.loop-value.invariant c.in-Some.ensures.items c.in_err-folded.ensures.folds)

pub loop-value-preserved : goal.loop-value-preserved
loop-value-preserved g c =
    values_more g.T.TypeVisitable.shape c.requires.value c.loop-value.invariant c.in-Some.ensures.items c.in_ok-folded.ensures.folds c.in_ok-push.ensures.ok

pub returns-in_err-push-clause-folds : goal.returns-in_err-push-clause-folds
returns-in_err-push-clause-folds g c =
    let more = values_more g.T.TypeVisitable.shape c.requires.value c.loop-value.invariant c.in-Some.ensures.items c.in_ok-folded.ensures.folds refl in
    let p = err_from_is_err_and c.from_residual-in_err-push.result c.from_residual-in_err-push.ensures.1 in
    rw p.1 (values_stop g.T.TypeVisitable.shape (λ v. v.items) more (λ u. (c.in_err-push.field-0.0, (p.2, memory_unbuilt c.fold_core.new.cx u _ c.in_err-push.ensures.memory))))

pub returns-clause-folds : goal.returns-clause-folds
returns-clause-folds g c = values_fold g.T.TypeVisitable.shape (λ v. v.items) c.loop-value.invariant (nil-from_length _ (omega (arith, c.in_default.ensures.cases.0, c.loop-value.rest.rest.ok.0)))
