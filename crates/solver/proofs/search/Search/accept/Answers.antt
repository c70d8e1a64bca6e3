use Rattle.std.proofs.Common.{sym, subst}
use Rattle.solver.specs.Search.{Continues}
use Rattle.solver.proofs.SearchLaws.{continues_further, continues_itself}
use Rattle.solver.proofs.search.Search.accept.Goals as goal

pub returns-then-not-is_owned : goal.returns-then-not-is_owned
returns-then-not-is_owned c = continues_itself c.requires.table

pub returns-in_err-unify_goals : goal.returns-in_err-unify_goals
returns-in_err-unify_goals c = continues_further c.make_variables.ensures c.unify_goals.ensures.continues

pub returns-then-not-branch : goal.returns-then-not-branch
returns-then-not-branch c = continues_further c.make_variables.ensures c.unify_goals.ensures.continues

pub returns-in_err-push : goal.returns-in_err-push
returns-in_err-push c =
    subst (λ t. Continues c.args.cx.now c.args.self.now.bindings c.unify_goals.new.cx t) (sym c.loop-line.invariant)
    (continues_further c.make_variables.ensures c.unify_goals.ensures.continues)

pub returns-in-Some-checked_sub : goal.returns-in-Some-checked_sub
returns-in-Some-checked_sub c =
    subst (λ t. Continues c.args.cx.now c.args.self.now.bindings c.unify_goals.new.cx t) (sym c.loop-line.invariant)
    (continues_further c.make_variables.ensures c.unify_goals.ensures.continues)

pub returns-in-None-checked_sub : goal.returns-in-None-checked_sub
returns-in-None-checked_sub c =
    subst (λ t. Continues c.args.cx.now c.args.self.now.bindings c.unify_goals.new.cx t) (sym c.loop-line.invariant)
    (continues_further c.make_variables.ensures c.unify_goals.ensures.continues)
