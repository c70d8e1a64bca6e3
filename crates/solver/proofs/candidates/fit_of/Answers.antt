use Rattle.solver.proofs.SearchLaws.{continues_back, continues_further, continues_grown}
use Rattle.solver.proofs.candidates.fit_of.Goals as goal

pub returns-in_err-is_equal : goal.returns-in_err-is_equal
returns-in_err-is_equal c = continues_further c.head_of.ensures.continues c.unify_goals.ensures.continues

pub returns-in_err-resolved : goal.returns-in_err-resolved
returns-in_err-resolved c =
    continues_further (continues_further c.head_of.ensures.continues c.unify_goals.ensures.continues)
    (continues_grown c.resolved_goal.ensures.extends c.unify_goals.ensures.continues.refined.table)

pub returns-then-not-is_equal : goal.returns-then-not-is_equal
returns-then-not-is_equal c =
    continues_back c.snapshot-mark.result.variables c.snapshot-mark.result.bindings c.requires.table
    (continues_further (continues_further c.head_of.ensures.continues c.unify_goals.ensures.continues)
    (continues_grown c.resolved_goal.ensures.extends c.unify_goals.ensures.continues.refined.table))
    c.snapshot-mark.ensures.variables c.snapshot-mark.ensures.bindings c.rollback_to.ensures.at

pub returns-in-Some-resolved : goal.returns-in-Some-resolved
returns-in-Some-resolved c =
    continues_back c.snapshot-mark.result.variables c.snapshot-mark.result.bindings c.requires.table
    (continues_further (continues_further c.head_of.ensures.continues c.unify_goals.ensures.continues)
    (continues_grown c.resolved_goal.ensures.extends c.unify_goals.ensures.continues.refined.table))
    c.snapshot-mark.ensures.variables c.snapshot-mark.ensures.bindings c.rollback_to.ensures.at

pub returns-in_default-resolved : goal.returns-in_default-resolved
returns-in_default-resolved c =
    continues_back c.snapshot-mark.result.variables c.snapshot-mark.result.bindings c.requires.table
    (continues_further (continues_further c.head_of.ensures.continues c.unify_goals.ensures.continues)
    (continues_grown c.resolved_goal.ensures.extends c.unify_goals.ensures.continues.refined.table))
    c.snapshot-mark.ensures.variables c.snapshot-mark.ensures.bindings c.rollback_to.ensures.at
