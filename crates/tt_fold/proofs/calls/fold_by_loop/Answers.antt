use Rattle.std.proofs.lemmas.Result.{err_from_is_err_and}
use Rattle.tt_kinds.specs.Kinds.{handle_shape}
use Rattle.tt_interner.proofs.Growth.{Extends-trans, IsPart-grows}
use Rattle.tt_fold.proofs.ChildSteps.{stored_not_begun, stored_done, stored_rest_fails, stored_ends}
use Rattle.tt_fold.proofs.ChildSteps.{never_inside, rest_is}
use Rattle.tt_fold.proofs.calls.fold_by_loop.Goals as goal

pub returns-in_err-begun-clause-folds : goal.returns-in_err-begun-clause-folds
returns-in_err-begun-clause-folds g c =
    let p = err_from_is_err_and c.from_residual.result c.from_residual.ensures.1 in
    rw (p.1, p.2) (stored_not_begun c.in_err-begun.ensures.goes)

pub returns-in-Done-clause-folds : goal.returns-in-Done-clause-folds
returns-in-Done-clause-folds g c = stored_done (rw c.in-Done.is at c.in_ok-begun.ensures.goes)

pub fold_frames-requires-clause-owned : goal.fold_frames-requires-clause-owned
fold_frames-requires-clause-owned g c = c.in_ok-begun.ensures.goes.is_owned

pub fold_frames-requires-clause-frame : goal.fold_frames-requires-clause-frame
fold_frames-requires-clause-frame g c =
    let d = rw c.in-Inside.is at c.in_ok-begun.ensures.goes in
    d.outcome.0.is

pub fold_frames-requires-clause-start : goal.fold_frames-requires-clause-start
fold_frames-requires-clause-start g c =
    let d = rw c.in-Inside.is at c.in_ok-begun.ensures.goes in
    d.outcome.0.start

pub returns-in_err-rebuilt-in-Inside-clause-folds : goal.returns-in_err-rebuilt-in-Inside-clause-folds
returns-in_err-rebuilt-in-Inside-clause-folds g c =
    let p = err_from_is_err_and c.from_residual-in_err-rebuilt-in-Inside.result c.from_residual-in_err-rebuilt-in-Inside.ensures.1 in
    let d = rw c.in-Inside.is at c.in_ok-begun.ensures.goes in
    rw (p.1, p.2) (stored_rest_fails d c.in_err-rebuilt-in-Inside.ensures)

pub returns-in_err-rebuilt-in-Inside-clause-still : goal.returns-in_err-rebuilt-in-Inside-clause-still
returns-in_err-rebuilt-in-Inside-clause-still g c =
    let d = rw c.in-Inside.is at c.in_ok-begun.ensures.goes in
    λ alone ends. absurd (never_inside c.requires.handle d alone ends)

pub finish_other-requires-clause-before : goal.finish_other-requires-clause-before
finish_other-requires-clause-before g c =
    let extends = Extends-trans c.in_ok-begun.ensures.goes.extends c.in_ok-rebuilt-in-Inside.ensures.extends in
    IsPart-grows _ _ extends.rows (handle_shape c.args.handle) c.requires.handle

pub finish_other-requires-clause-rebuilt : goal.finish_other-requires-clause-rebuilt
finish_other-requires-clause-rebuilt g c =
    let d = rw c.in-Inside.is at c.in_ok-begun.ensures.goes in
    rest_is d.outcome.0 c.in_ok-rebuilt-in-Inside.ensures

pub returns-in_ok-rebuilt-in-Inside-clause-folds : goal.returns-in_ok-rebuilt-in-Inside-clause-folds
returns-in_ok-rebuilt-in-Inside-clause-folds g c =
    let d = rw c.in-Inside.is at c.in_ok-begun.ensures.goes in
    stored_ends c.requires.handle d c.in_ok-rebuilt-in-Inside.ensures c.finish_other.ensures

pub returns-in_ok-rebuilt-in-Inside-clause-still : goal.returns-in_ok-rebuilt-in-Inside-clause-still
returns-in_ok-rebuilt-in-Inside-clause-still g c =
    let d = rw c.in-Inside.is at c.in_ok-begun.ensures.goes in
    λ alone ends. absurd (never_inside c.requires.handle d alone ends)
