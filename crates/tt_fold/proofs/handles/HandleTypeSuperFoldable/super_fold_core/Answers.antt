use Rattle.std.proofs.Common.{ap, ◌∙◌}
use Rattle.std.proofs.lemmas.Result.{err_from_is_err_and}
use Rattle.tt_fold.proofs.ValueSteps.{handle_fails, handle_folds, super_stored}
use Rattle.tt_fold.proofs.handles.HandleTypeSuperFoldable.super_fold_core.Goals as goal

pub fold_inside-requires-clause-handle : goal.fold_inside-requires-clause-handle
fold_inside-requires-clause-handle g c = rw (c.any.ensures, g.met.K.IsTermRow.same_table) c.requires.value

pub fold_inside-requires-clause-term : goal.fold_inside-requires-clause-term
fold_inside-requires-clause-term g c = rw c.any.ensures g.met.K.HasHook.term

pub returns-in_err-handle : goal.returns-in_err-handle
returns-in_err-handle g c =
    let p = err_from_is_err_and c.from_residual.result c.from_residual.ensures.1 in
    rw (p.1, p.2) (super_stored (handle_fails g.K.IsTermRow.TERM_TABLE g.K.IsStored.TABLE g.met.K.IsTermRow.same_table c.args.self (rw c.any.ensures at c.in_err-handle.ensures)))

pub typed-requires : goal.typed-requires
typed-requires g c = c.in_ok-handle.ensures.outcome.0.like ∙ ap (λ h. h.table) c.any.ensures

pub returns : goal.returns
returns g c =
    super_stored (handle_folds g.K.IsTermRow.TERM_TABLE g.K.IsStored.TABLE g.met.K.IsTermRow.same_table c.args.self c.typed.result c.typed.ensures (rw c.any.ensures at c.in_ok-handle.ensures))
