use Rattle.tt_interner.proofs.Growth.{Extends-trans}
use Rattle.unify.proofs.UnificationLaws.{table_stays}
use Rattle.checker.proofs.ScopeLaws.{scope_stays}
use Rattle.checker.proofs.infer.calls.infer_data.Goals as goal

pub returns-in_err-types-clause-table : goal.returns-in_err-types-clause-table
returns-in_err-types-clause-table c = table_stays c.fresh_data_type.new.cx c.field_types.new.cx c.fresh_data_type.new.bindings c.field_types.ensures.extends c.fresh_data_type.ensures.table

pub returns-then-values-len-clause-table : goal.returns-then-values-len-clause-table
returns-then-values-len-clause-table c = table_stays c.fresh_data_type.new.cx c.field_types.new.cx c.fresh_data_type.new.bindings c.field_types.ensures.extends c.fresh_data_type.ensures.table

pub equate_each-requires-clause-table : goal.equate_each-requires-clause-table
equate_each-requires-clause-table c = table_stays c.fresh_data_type.new.cx c.field_types.new.cx c.fresh_data_type.new.bindings c.field_types.ensures.extends c.fresh_data_type.ensures.table

pub equate_each-requires-clause-scope : goal.equate_each-requires-clause-scope
equate_each-requires-clause-scope c = scope_stays c.args.cx.now c.field_types.new.cx _ (Extends-trans c.fresh_data_type.ensures.extends c.field_types.ensures.extends) c.requires.scope

pub returns-in_err-equate_each-clause-extends : goal.returns-in_err-equate_each-clause-extends
returns-in_err-equate_each-clause-extends c = Extends-trans c.fresh_data_type.ensures.extends (Extends-trans c.field_types.ensures.extends c.equate_each.ensures.extends)

pub returns-clause-extends : goal.returns-clause-extends
returns-clause-extends c = Extends-trans c.fresh_data_type.ensures.extends (Extends-trans c.field_types.ensures.extends c.equate_each.ensures.extends)
