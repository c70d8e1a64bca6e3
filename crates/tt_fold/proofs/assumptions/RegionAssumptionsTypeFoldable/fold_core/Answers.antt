-- a copy of the assumptions is folded, and what came of them is stored
use Rattle.std.proofs.Common.{refl}
use Rattle.std.proofs.lemmas.Result.{err_from_is_err_and}
use Rattle.tt_fold.proofs.WantedLaws.{memory_unbuilt}
use Rattle.tt_fold.proofs.FoldSteps.{stands-still}
use Rattle.tt_fold.proofs.AssumptionSteps.{sequence-part, sequence-parts, vector-error, not_stored, copy_stops}
use Rattle.tt_fold.proofs.AssumptionSteps.{assumptions_fail, assumptions_not_stored, assumptions_stored}
use Rattle.tt_fold.specs.GrowthLaws.{stored-adds}
use Rattle.tt_fold.proofs.assumptions.RegionAssumptionsTypeFoldable.fold_core.Goals as goal

pub returns-in_err-items-clause-folds : goal.returns-in_err-items-clause-folds
returns-in_err-items-clause-folds g c =
    let p = err_from_is_err_and c.from_residual.result c.from_residual.ensures.1 in
    rw p.1 (copy_stops c.args.self c.as_slice.result.now c.are_rows.ensures.are c.as_slice.ensures.row c.requires.state
    (λ u. (c.in_err-items.field-0.0, (p.2, memory_unbuilt c.args.cx.now u _ c.in_err-items.ensures.memory))))

pub fold_core-requires-clause-value : goal.fold_core-requires-clause-value
fold_core-requires-clause-value g c =
    sequence-part _ c.are_rows.ensures.are c.args.self c.in_ok-items.items.items (rw c.in_ok-items.ensures.ok c.as_slice.ensures.row)

pub returns-in_err-folded-clause-folds : goal.returns-in_err-folded-clause-folds
returns-in_err-folded-clause-folds g c =
    let p = err_from_is_err_and c.from_residual-in_err-folded.result c.from_residual-in_err-folded.ensures.1 in
    rw (p.1, p.2) (assumptions_fail c.args.self (λ v. v.items) c.are_rows.ensures.are (rw c.in_ok-items.ensures.ok c.as_slice.ensures.row) (λ us h. vector-error {E = g.row.F-Error.Denot} g.F.Error.From.from_gives c.fold_core.new.cx _ us h) c.in_err-folded.ensures.folds)

pub mk_assumptions-requires : goal.mk_assumptions-requires
mk_assumptions-requires g c = rw c.as_slice-2.ensures.value (sequence-parts _ _ c.in_ok-folded.ensures.folds.outcome.0)

pub returns-in_err-list-clause-folds : goal.returns-in_err-list-clause-folds
returns-in_err-list-clause-folds g c =
    let p = err_from_is_err_and c.from_residual-in_err-list.result c.from_residual-in_err-list.ensures.1 in
    let b = rw c.as_slice-2.ensures.value at c.in_err-list.ensures in
    rw p.1 (assumptions_not_stored c.args.self (λ v. v.items) c.are_rows.ensures.are (rw c.in_ok-items.ensures.ok c.as_slice.ensures.row) c.in_ok-folded.ensures.folds b.err
    (c.in_err-list.field-0.0, (p.2, rw b.err (not_stored c.fold_core.new.cx _ _ (sequence-parts _ _ c.in_ok-folded.ensures.folds.outcome.0) b.cause))))

pub returns-clause-folds : goal.returns-clause-folds
returns-clause-folds g c =
    let b = rw c.as_slice-2.ensures.value at c.in_ok-list.ensures in
    let o = c.in_ok-folded.ensures.folds.is_owned in
    let adds = stored-adds refl b.stored in
    assumptions_stored c.args.self (λ v. v.items) c.are_rows.ensures.are (rw c.in_ok-items.ensures.ok c.as_slice.ensures.row) c.in_ok-list.list c.in_ok-folded.ensures.folds b (g.met.F.Core.still_owned _ _ _ adds o)
    (stands-still g.F.Core.meaning c.fold_core.new.cx c.mk_assumptions.new.self c.fold_core.new.folder (g.met.F.Core.still_means _ _ _ adds o) b.counters)
