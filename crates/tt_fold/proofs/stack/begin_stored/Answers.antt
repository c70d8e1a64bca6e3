use Rattle.std.proofs.lemmas.Result.{err_from_is_err_and}
use Rattle.tt_fold.proofs.ItemSteps.{begun_replaced, begun_kept, begun_not_open, begun_inside, begun_finish_fails}
use Rattle.tt_fold.proofs.ItemSteps.{begun_leaf, never_descends}
use Rattle.tt_fold.proofs.stack.begin_stored.Goals as goal

pub returns-in_err-step-clause-goes : goal.returns-in_err-step-clause-goes
returns-in_err-step-clause-goes g c =
    let p = err_from_is_err_and c.from_residual.result c.from_residual.ensures.1 in
    let d = c.in_err-step.ensures.goes in
    rw (p.1, p.2) (record { extends = d.extends; is_owned = d.is_owned; outcome = d.outcome })

pub returns-in_err-step-clause-still : goal.returns-in_err-step-clause-still
returns-in_err-step-clause-still g c = λ alone ends. c.in_err-step.ensures.still ends.still

pub returns-in-Replace-clause-goes : goal.returns-in-Replace-clause-goes
returns-in-Replace-clause-goes g c = begun_replaced c.args.handle _ (rw c.in-Replace.is at c.in_ok-step.ensures.goes)

pub returns-in-Replace-clause-still : goal.returns-in-Replace-clause-still
returns-in-Replace-clause-still g c = λ alone ends. c.in_ok-step.ensures.still ends.still

pub returns-in-Keep-clause-goes : goal.returns-in-Keep-clause-goes
returns-in-Keep-clause-goes g c = begun_kept c.args.handle c.requires.handle (rw c.in-Keep.is at c.in_ok-step.ensures.goes)

pub returns-in-Keep-clause-still : goal.returns-in-Keep-clause-still
returns-in-Keep-clause-still g c = λ alone ends. c.in_ok-step.ensures.still ends.still

pub returns-in_err-opened-in-Descend-clause-goes : goal.returns-in_err-opened-in-Descend-clause-goes
returns-in_err-opened-in-Descend-clause-goes g c =
    let p = err_from_is_err_and c.from_residual-in_err-opened-in-Descend.result c.from_residual-in_err-opened-in-Descend.ensures.1 in
    rw (p.1, p.2) (begun_not_open c.args.handle c.requires.handle (rw c.in-Descend.is at c.in_ok-step.ensures.goes) c.in_err-opened-in-Descend.ensures)

pub returns-in_err-opened-in-Descend-clause-still : goal.returns-in_err-opened-in-Descend-clause-still
returns-in_err-opened-in-Descend-clause-still g c =
    let d = rw c.in-Descend.is at c.in_ok-step.ensures.goes in
    λ alone ends. absurd (never_descends _ c.args.handle c.requires.handle alone ends d.outcome)

pub returns-in-Some-clause-goes : goal.returns-in-Some-clause-goes
returns-in-Some-clause-goes g c =
    begun_inside c.args.handle _ c.requires.handle (rw c.in-Descend.is at c.in_ok-step.ensures.goes) (rw c.in-Some.is at c.in_ok-opened-in-Descend.ensures)

pub returns-in-Some-clause-still : goal.returns-in-Some-clause-still
returns-in-Some-clause-still g c =
    let d = rw c.in-Descend.is at c.in_ok-step.ensures.goes in
    λ alone ends. absurd (never_descends _ c.args.handle c.requires.handle alone ends d.outcome)

pub returns-in_err-value-in-None-clause-goes : goal.returns-in_err-value-in-None-clause-goes
returns-in_err-value-in-None-clause-goes g c =
    let p = err_from_is_err_and c.from_residual-in_err-value-in-None.result c.from_residual-in_err-value-in-None.ensures.1 in
    rw (p.1, p.2) (begun_finish_fails c.args.handle c.requires.handle (rw c.in-Descend.is at c.in_ok-step.ensures.goes) (rw c.in-None.is at c.in_ok-opened-in-Descend.ensures) c.in_err-value-in-None.ensures)

pub returns-in_err-value-in-None-clause-still : goal.returns-in_err-value-in-None-clause-still
returns-in_err-value-in-None-clause-still g c =
    let d = rw c.in-Descend.is at c.in_ok-step.ensures.goes in
    λ alone ends. absurd (never_descends _ c.args.handle c.requires.handle alone ends d.outcome)

pub returns-in_ok-value-in-None-clause-goes : goal.returns-in_ok-value-in-None-clause-goes
returns-in_ok-value-in-None-clause-goes g c =
    begun_leaf c.args.handle c.requires.handle (rw c.in-Descend.is at c.in_ok-step.ensures.goes) (rw c.in-None.is at c.in_ok-opened-in-Descend.ensures) c.in_ok-value-in-None.ensures

pub returns-in_ok-value-in-None-clause-still : goal.returns-in_ok-value-in-None-clause-still
returns-in_ok-value-in-None-clause-still g c =
    let d = rw c.in-Descend.is at c.in_ok-step.ensures.goes in
    λ alone ends. absurd (never_descends _ c.args.handle c.requires.handle alone ends d.outcome)
