use Rattle.std.proofs.Common.{ap, ◌∙◌}
use Rattle.std.proofs.lemmas.Result.{err_from_is_err_and}
use Rattle.tt_fold.proofs.ValueSteps.{handle_fails, handle_folds}
use Rattle.tt_fold.proofs.handles.HandleTypeFoldable.fold_core.Goals as goal

pub fold_stored-requires-clause-handle : goal.fold_stored-requires-clause-handle
fold_stored-requires-clause-handle g c = rw (c.any.ensures, g.met.K.IsTermRow.same_table) c.requires.value

pub returns-in_err-handle-clause-still : goal.returns-in_err-handle-clause-still
returns-in_err-handle-clause-still g c = rw (c.any.ensures, g.met.K.IsTermRow.same_table) at c.in_err-handle.ensures.still

pub returns-in_err-handle-clause-folds : goal.returns-in_err-handle-clause-folds
returns-in_err-handle-clause-folds g c =
    let p = err_from_is_err_and c.from_residual.result c.from_residual.ensures.1 in
    rw (p.1, p.2) (handle_fails g.K.IsTermRow.TERM_TABLE g.K.IsStored.TABLE g.met.K.IsTermRow.same_table c.args.self (rw c.any.ensures at c.in_err-handle.ensures.folds))

pub typed-requires : goal.typed-requires
typed-requires g c = c.in_ok-handle.ensures.folds.outcome.0.like ∙ ap (λ h. h.table) c.any.ensures

pub returns-clause-still : goal.returns-clause-still
returns-clause-still g c = rw (c.any.ensures, g.met.K.IsTermRow.same_table) at c.in_ok-handle.ensures.still

pub returns-clause-folds : goal.returns-clause-folds
returns-clause-folds g c =
    handle_folds g.K.IsTermRow.TERM_TABLE g.K.IsStored.TABLE g.met.K.IsTermRow.same_table c.args.self c.typed.result c.typed.ensures (rw c.any.ensures at c.in_ok-handle.ensures.folds)
