use Rattle.unify.proofs.UnificationLaws.{table_stays}
use Rattle.solver.proofs.resolved.resolved_line.Goals as goal

pub goal_of_line-requires : goal.goal_of_line-requires
goal_of_line-requires c =
    table_stays c.args.cx.now c.resolved_reason.new.cx c.args.bindings.now c.resolved_reason.ensures c.requires
