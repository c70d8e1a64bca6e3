use Rattle.unify.proofs.UnificationLaws.{table_stays}
use Rattle.solver.proofs.needs.ground_instance.Goals as goal

pub resolved_goal-requires-clause-table : goal.resolved_goal-requires-clause-table
resolved_goal-requires-clause-table c =
    table_stays c.args.cx.now c.instance.new.cx c.args.bindings.now c.instance.ensures.extends c.requires.table
