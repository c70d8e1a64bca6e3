use Rattle.unify.proofs.UnificationLaws.{table_stays}
use Rattle.checker.proofs.infer.infer_type.Goals as goal

pub returns-in_default-clause-table : goal.returns-in_default-clause-table
returns-in_default-clause-table c = table_stays c.args.cx.now c.built.new.cx c.args.bindings.now c.built.ensures.extends c.requires.table
