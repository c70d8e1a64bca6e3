use Rattle.unify.proofs.UnificationLaws.{table_stays}
use Rattle.solver.proofs.resolved.resolved_lines.Goals as goal

pub resolved_line-requires : goal.resolved_line-requires
resolved_line-requires c =
    table_stays c.args.cx.now c.loop-number.cx c.args.bindings.now c.loop-number.invariant c.requires
