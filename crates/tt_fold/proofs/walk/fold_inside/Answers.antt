use Rattle.std.proofs.lemmas.Result.{err_from_is_err_and}
use Rattle.tt_fold.proofs.ChildSteps.{inside_not_open, inside_none, inside_walks}
use Rattle.tt_fold.proofs.walk.fold_inside.Goals as goal

pub returns-in_err-opened : goal.returns-in_err-opened
returns-in_err-opened g c =
    let p = err_from_is_err_and c.from_residual.result c.from_residual.ensures.1 in
    rw (p.1, p.2) (inside_not_open c.in_err-opened.ensures)

pub returns-in-None : goal.returns-in-None
returns-in-None g c = inside_none c.requires.handle (rw c.in-None.is at c.in_ok-opened.ensures)

pub fold_frames-requires-clause-owned : goal.fold_frames-requires-clause-owned
fold_frames-requires-clause-owned g c = c.in_ok-opened.ensures.is_owned

pub fold_frames-requires-clause-frame : goal.fold_frames-requires-clause-frame
fold_frames-requires-clause-frame g c =
    let d = rw c.in-Some.is at c.in_ok-opened.ensures in
    d.outcome.0.is

pub fold_frames-requires-clause-start : goal.fold_frames-requires-clause-start
fold_frames-requires-clause-start g c =
    let d = rw c.in-Some.is at c.in_ok-opened.ensures in
    d.outcome.0.start

pub returns-in-Some : goal.returns-in-Some
returns-in-Some g c =
    let d = rw c.in-Some.is at c.in_ok-opened.ensures in
    inside_walks c.requires.term c.requires.handle d c.fold_frames.ensures
