use Rattle.tt_calls.specs.Told.{told_all}
use Rattle.tt_calls.specs.Means.{number_at}
use Rattle.tt_calls.proofs.ChildLaws.{vars-given}
use Rattle.tt_calls.proofs.ResultLaws.{err-then}
use Rattle.tt_calls.proofs.build.parts.build_binder.Goals as goal

pub returns-in-Some-clause-vars : goal.returns-in-Some-clause-vars
returns-in-Some-clause-vars c = λ terms.
    rw (c.in-Some.is) (vars-given c.build_vars.new.cx (number_at (told_all terms.rows c.args.earlier.now)) c.in-Some.vars.now c.build_vars.result (c.build_vars.ensures.vars terms.rows))

pub returns-in-Some-clause-room : goal.returns-in-Some-clause-room
returns-in-Some-clause-room c = λ terms. rw (c.in-Some.is) (err-then c.build_vars.result _ _ c.build_vars.ensures.room (λ r h. h terms.rows))
