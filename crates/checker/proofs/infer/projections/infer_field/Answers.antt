use Rattle.tt_interner.proofs.Growth.{Extends-trans}
use Rattle.unify.proofs.UnificationLaws.{table_stays}
use Rattle.checker.proofs.infer.projections.infer_field.Goals as goal

pub returns-in_err-symbol-clause-table : goal.returns-in_err-symbol-clause-table
returns-in_err-symbol-clause-table c = table_stays c.args.cx.now c.symbol_of.new.cx c.args.bindings.now c.symbol_of.ensures.extends c.requires.table

pub no_field-requires-clause-table : goal.no_field-requires-clause-table
no_field-requires-clause-table c = table_stays c.args.cx.now c.field_named.new.cx c.args.bindings.now (Extends-trans c.symbol_of.ensures.extends c.field_named.ensures.extends) c.requires.table

pub returns-in_err-ty-clause-table : goal.returns-in_err-ty-clause-table
returns-in_err-ty-clause-table c = table_stays c.args.cx.now c.field_named.new.cx c.args.bindings.now (Extends-trans c.symbol_of.ensures.extends c.field_named.ensures.extends) c.requires.table

pub returns-in-Some-clause-table : goal.returns-in-Some-clause-table
returns-in-Some-clause-table c = table_stays c.args.cx.now c.field_named.new.cx c.args.bindings.now (Extends-trans c.symbol_of.ensures.extends c.field_named.ensures.extends) c.requires.table

pub returns-in_err-cause-in-None-clause-extends : goal.returns-in_err-cause-in-None-clause-extends
returns-in_err-cause-in-None-clause-extends c = Extends-trans c.symbol_of.ensures.extends (Extends-trans c.field_named.ensures.extends c.no_field.ensures.extends)

pub returns-in_ok-cause-in-None-clause-extends : goal.returns-in_ok-cause-in-None-clause-extends
returns-in_ok-cause-in-None-clause-extends c = Extends-trans c.symbol_of.ensures.extends (Extends-trans c.field_named.ensures.extends c.no_field.ensures.extends)
