use Rattle.unify.proofs.UnificationLaws.{table_stays}
use Rattle.solver.proofs.needs.ground_instances.Goals as goal

pub ground_instance-requires-clause-table : goal.ground_instance-requires-clause-table
ground_instance-requires-clause-table c =
    table_stays c.args.cx.now c.loop-index.cx c.args.bindings.now c.loop-index.invariant c.requires.table
