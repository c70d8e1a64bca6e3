use Rattle.unify.proofs.UnificationLaws.{table_stays}
use Rattle.checker.proofs.infer.calls.fresh_data_type.Goals as goal

pub returns-clause-table : goal.returns-clause-table
returns-clause-table c =
    table_stays c.fresh_variables.new.cx c.data_type_of.new.cx c.fresh_variables.new.bindings c.data_type_of.ensures.extends c.fresh_variables.ensures.table
