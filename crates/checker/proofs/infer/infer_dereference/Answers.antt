use Rattle.tt_interner.proofs.Growth.{Extends-trans}
use Rattle.unify.proofs.UnificationLaws.{table_stays}
use Rattle.checker.proofs.infer.infer_dereference.Goals as goal

pub equate-requires-clause-table : goal.equate-requires-clause-table
equate-requires-clause-table c = table_stays c.fresh_variable.new.cx c.reference_to.new.cx c.fresh_variable.new.bindings c.reference_to.ensures.extends c.fresh_variable.ensures.table

pub returns-in_err-expected-clause-table : goal.returns-in_err-expected-clause-table
returns-in_err-expected-clause-table c = table_stays c.fresh_variable.new.cx c.reference_to.new.cx c.fresh_variable.new.bindings c.reference_to.ensures.extends c.fresh_variable.ensures.table

pub returns-clause-extends : goal.returns-clause-extends
returns-clause-extends c = Extends-trans c.fresh_variable.ensures.extends (Extends-trans c.reference_to.ensures.extends c.equate.ensures.extends)

pub returns-in_err-equate-clause-extends : goal.returns-in_err-equate-clause-extends
returns-in_err-equate-clause-extends c = Extends-trans c.fresh_variable.ensures.extends (Extends-trans c.reference_to.ensures.extends c.equate.ensures.extends)
