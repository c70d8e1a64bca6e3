use Rattle.std.proofs.Common.{arith, sym, subst}
use Rattle.tt_interner.proofs.Growth.{Extends-trans}
use Rattle.unify.proofs.UnificationLaws.{table_stays}
use Rattle.solver.specs.Search.{Continues}
use Rattle.solver.proofs.SearchLaws.{continues_back, continues_further, continues_grown, continues_itself}
use Rattle.solver.proofs.search.Search.+search.Goals as goal

pub alternative-returns-in_err-answer : goal.alternative-returns-in_err-answer
alternative-returns-in_err-answer n c =
    continues_further c.attempt.ensures (continues_grown c.resolved_goal.ensures.extends c.attempt.ensures.refined.table)

pub alternative-returns-then-eq : goal.alternative-returns-then-eq
alternative-returns-then-eq n c =
    continues_further c.attempt.ensures (continues_grown c.resolved_goal.ensures.extends c.attempt.ensures.refined.table)

pub alternative-resolved_lines-requires : goal.alternative-resolved_lines-requires
alternative-resolved_lines-requires n c =
    table_stays c.attempt.new.cx c.resolved_goal.new.cx c.attempt.new.self.bindings c.resolved_goal.ensures.extends c.attempt.ensures.refined.table

pub alternative-returns-in_err-lines : goal.alternative-returns-in_err-lines
alternative-returns-in_err-lines n c =
    continues_further c.attempt.ensures
    (continues_grown (Extends-trans c.resolved_goal.ensures.extends c.resolved_lines.ensures) c.attempt.ensures.refined.table)

pub alternative-returns-in-Some : goal.alternative-returns-in-Some
alternative-returns-in-Some n c =
    continues_back c.snapshot-mark.result.variables c.snapshot-mark.result.bindings c.requires.table
    (continues_further c.attempt.ensures
    (continues_grown (Extends-trans c.resolved_goal.ensures.extends c.resolved_lines.ensures) c.attempt.ensures.refined.table))
    c.snapshot-mark.ensures.variables c.snapshot-mark.ensures.bindings c.rollback_to.ensures.at

pub alternative-returns-in-None : goal.alternative-returns-in-None
alternative-returns-in-None n c =
    continues_back c.snapshot-mark.result.variables c.snapshot-mark.result.bindings c.requires.table
    (continues_further c.attempt.ensures
    (continues_grown (Extends-trans c.resolved_goal.ensures.extends c.resolved_lines.ensures) c.attempt.ensures.refined.table))
    c.snapshot-mark.ensures.variables c.snapshot-mark.ensures.bindings c.rollback_to.ensures.at

pub apply-returns-then-self-eq0 : goal.apply-returns-then-self-eq0
apply-returns-then-self-eq0 n c = continues_itself c.requires.table

pub apply-returns-in_err-unify_goals : goal.apply-returns-in_err-unify_goals
apply-returns-in_err-unify_goals n c = continues_further c.head_of.ensures.continues c.unify_goals.ensures.continues

pub apply-returns-then-not-branch : goal.apply-returns-then-not-branch
apply-returns-then-not-branch n c = continues_further c.head_of.ensures.continues c.unify_goals.ensures.continues

pub apply-returns-in-Assumption : goal.apply-returns-in-Assumption
apply-returns-in-Assumption n c = continues_further c.head_of.ensures.continues c.unify_goals.ensures.continues

pub apply-returns-in-Assumption-2 : goal.apply-returns-in-Assumption-2
apply-returns-in-Assumption-2 n c =
    subst (λ t. Continues c.args.cx.now c.args.self.now.bindings c.unify_goals.new.cx t) (sym c.push_line.ensures)
    (continues_further c.head_of.ensures.continues c.unify_goals.ensures.continues)

pub apply-returns-in-Implementation : goal.apply-returns-in-Implementation
apply-returns-in-Implementation n c =
    continues_further (continues_further c.head_of.ensures.continues c.unify_goals.ensures.continues) c.implement.ensures

pub attempt-returns-in_default : goal.attempt-returns-in_default
attempt-returns-in_default n c =
    continues_back c.snapshot-mark.result.variables c.snapshot-mark.result.bindings c.requires.table
    (c.apply.ensures)
    c.snapshot-mark.ensures.variables c.snapshot-mark.ensures.bindings c.rollback_to.ensures.at

pub choose-loop-index-init : goal.choose-loop-index-init
choose-loop-index-init n c = continues_itself c.requires.table

pub choose-returns-in_err-line : goal.choose-returns-in_err-line
choose-returns-in_err-line n c = continues_further c.loop-index.invariant c.alternative.ensures

pub choose-returns-in-Derived : goal.choose-returns-in-Derived
choose-returns-in-Derived n c = continues_further c.loop-index.invariant c.alternative.ensures

pub choose-returns-in-Some-2 : goal.choose-returns-in-Some-2
choose-returns-in-Some-2 n c = continues_further c.loop-index.invariant c.alternative.ensures

pub choose-loop-index-preserved : goal.choose-loop-index-preserved
choose-loop-index-preserved n c = continues_further c.loop-index.invariant c.alternative.ensures

pub choose-returns-in-Some-found : goal.choose-returns-in-Some-found
choose-returns-in-Some-found n c = continues_further c.loop-index.invariant c.accept.ensures

pub implement-returns-in_default : goal.implement-returns-in_default
implement-returns-in_default n c = continues_itself c.requires.table

pub implement-returns-in_err-conditions : goal.implement-returns-in_err-conditions
implement-returns-in_err-conditions n c = continues_grown c.instances.ensures c.requires.table

pub implement-returns-in_err-conditions-2 : goal.implement-returns-in_err-conditions-2
implement-returns-in_err-conditions-2 n c =
    continues_further (continues_grown c.instances.ensures c.requires.table) c.solve_rounds.ensures

pub implement-returns-in-Some-2 : goal.implement-returns-in-Some-2
implement-returns-in-Some-2 n c =
    continues_further (continues_grown c.instances.ensures c.requires.table) c.solve_rounds.ensures

pub implement-returns : goal.implement-returns
implement-returns n c =
    continues_further (continues_grown c.instances.ensures c.requires.table) c.solve_rounds.ensures

pub solve_rounds-loop-init : goal.solve_rounds-loop-init
solve_rounds-loop-init n c =
    continues_itself c.requires

pub solve_rounds-returns-in_err-round : goal.solve_rounds-returns-in_err-round
solve_rounds-returns-in_err-round n c =
    continues_further c.loop.invariant c.solve_round.ensures

pub solve_rounds-returns-in-Some : goal.solve_rounds-returns-in-Some
solve_rounds-returns-in-Some n c =
    continues_further c.loop.invariant c.solve_round.ensures

pub solve_rounds-returns-in-None : goal.solve_rounds-returns-in-None
solve_rounds-returns-in-None n c =
    continues_further c.loop.invariant c.solve_round.ensures

pub solve_rounds-loop-preserved : goal.solve_rounds-loop-preserved
solve_rounds-loop-preserved n c =
    continues_further c.loop.invariant c.solve_round.ensures

pub solve_goal-returns-then-not-is_owned : goal.solve_goal-returns-then-not-is_owned
solve_goal-returns-then-not-is_owned n c = continues_itself c.requires

pub solve_goal-returns-in_err-goal : goal.solve_goal-returns-in_err-goal
solve_goal-returns-in_err-goal n c = continues_grown c.resolved_goal.ensures.extends c.requires

pub solve_goal-returns-in_default : goal.solve_goal-returns-in_default
solve_goal-returns-in_default n c = continues_grown c.resolved_goal.ensures.extends c.requires

pub solve_goal-returns-in-Some-line_of : goal.solve_goal-returns-in-Some-line_of
solve_goal-returns-in-Some-line_of n c = continues_grown c.resolved_goal.ensures.extends c.requires

pub solve_goal-returns-then-contains : goal.solve_goal-returns-then-contains
solve_goal-returns-then-contains n c = continues_grown c.resolved_goal.ensures.extends c.requires

pub solve_goal-returns-then-depth-eq0 : goal.solve_goal-returns-then-depth-eq0
solve_goal-returns-then-depth-eq0 n c = continues_grown c.resolved_goal.ensures.extends c.requires

pub solve_goal-matching-requires-clause-table : goal.solve_goal-matching-requires-clause-table
solve_goal-matching-requires-clause-table n c =
    table_stays c.args.cx.now c.resolved_goal.new.cx c.args.self.now.bindings c.resolved_goal.ensures.extends c.requires

pub solve_goal-returns-in_err-candidates : goal.solve_goal-returns-in_err-candidates
solve_goal-returns-in_err-candidates n c =
    continues_further (continues_grown c.resolved_goal.ensures.extends c.requires) c.matching.ensures

pub solve_goal-returns-in_err-push : goal.solve_goal-returns-in_err-push
solve_goal-returns-in_err-push n c =
    continues_further (continues_grown c.resolved_goal.ensures.extends c.requires) c.matching.ensures

pub solve_goal-returns : goal.solve_goal-returns
solve_goal-returns n c =
    continues_further (continues_further (continues_grown c.resolved_goal.ensures.extends c.requires) c.matching.ensures) c.choose-verdict.ensures

pub solve_round-loop-index-init : goal.solve_round-loop-index-init
solve_round-loop-index-init n c = continues_itself c.requires

pub solve_round-returns-in_err-verdict : goal.solve_round-returns-in_err-verdict
solve_round-returns-in_err-verdict n c = continues_further c.loop-index.invariant c.solve_goal.ensures

pub solve_round-loop-index-preserved : goal.solve_round-loop-index-preserved
solve_round-loop-index-preserved n c = continues_further c.loop-index.invariant c.solve_goal.ensures

pub implement-solve_rounds-requires : goal.implement-solve_rounds-requires
implement-solve_rounds-requires n c = (
  omega (arith, c.decreases),
  table_stays c.args.cx.now c.instances.new.cx c.args.self.now.bindings c.instances.ensures c.requires.table,
)

pub implement-returns-in_err-verdict : goal.implement-returns-in_err-verdict
implement-returns-in_err-verdict n c =
    continues_further (continues_grown c.instances.ensures c.requires.table) c.solve_rounds.ensures

pub implement-returns-in-Some-3 : goal.implement-returns-in-Some-3
implement-returns-in-Some-3 n c =
    subst (λ t. Continues c.args.cx.now c.args.self.now.bindings c.solve_rounds.new.cx t) (sym c.push_line.ensures)
    (continues_further (continues_grown c.instances.ensures c.requires.table) c.solve_rounds.ensures)
