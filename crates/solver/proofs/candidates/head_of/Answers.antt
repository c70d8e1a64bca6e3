use Rattle.std.proofs.Common.{sym, subst}
use Rattle.solver.specs.Search.{Continues}
use Rattle.solver.proofs.SearchLaws.{continues_further, continues_grown, continues_itself}
use Rattle.solver.proofs.candidates.head_of.Goals.{in-Assumption-candidate, in-Implementation-candidate+in_ok-goal-in-Implementation-candidate}
use Rattle.solver.proofs.candidates.head_of.Goals as goal

pub returns-in-None-clause-continues : goal.returns-in-None-clause-continues
returns-in-None-clause-continues c = continues_itself c.requires

pub returns-in-None-implementation-clause-continues : goal.returns-in-None-implementation-clause-continues
returns-in-None-implementation-clause-continues c = continues_itself c.requires

pub returns-then-ne-clause-continues : goal.returns-then-ne-clause-continues
returns-then-ne-clause-continues c = continues_itself c.requires

pub returns-in_err-goal-in-Implementation-candidate-clause-continues : goal.returns-in_err-goal-in-Implementation-candidate-clause-continues
returns-in_err-goal-in-Implementation-candidate-clause-continues c =
    continues_further c.fresh_args.ensures.continues
    (continues_grown c.instance.ensures.extends c.fresh_args.ensures.continues.refined.table)

pub returns-clause-continues : goal.returns-clause-continues
returns-clause-continues c =
    let on = c.fresh_args.ensures.continues in
    elim c.match-candidate-2.branch [
      | in-Assumption-candidate w ↦ subst (λ t. Continues c.args.cx.now c.args.bindings.now t c.fresh_args.new.bindings) (sym w.cx-is) on
      | in-Implementation-candidate+in_ok-goal-in-Implementation-candidate w ↦ (
          subst (λ t. Continues c.args.cx.now c.args.bindings.now t c.fresh_args.new.bindings) (sym w.cx-is)
          (continues_further on (continues_grown w.instance.ensures.extends on.refined.table)))
    ]
