use Rattle.tt_interner.proofs.Growth.{Extends-trans}
use Rattle.unify.proofs.UnificationLaws.{table_stays}
use Rattle.checker.proofs.ScopeLaws.{scope_stays}
use Rattle.checker.proofs.infer.calls.infer_call.Goals as goal

pub returns-in_err-inputs-clause-table : goal.returns-in_err-inputs-clause-table
returns-in_err-inputs-clause-table c = table_stays c.fresh_function.new.cx c.signature.new.cx c.fresh_function.new.bindings c.signature.ensures.extends c.fresh_function.ensures.table

pub equate_each-requires-clause-table : goal.equate_each-requires-clause-table
equate_each-requires-clause-table c = table_stays c.fresh_function.new.cx c.signature.new.cx c.fresh_function.new.bindings c.signature.ensures.extends c.fresh_function.ensures.table

pub equate_each-requires-clause-scope : goal.equate_each-requires-clause-scope
equate_each-requires-clause-scope c = scope_stays c.args.cx.now c.signature.new.cx _ (Extends-trans c.fresh_function.ensures.extends c.signature.ensures.extends) c.requires.scope

pub returns-in_err-equate_each-clause-extends : goal.returns-in_err-equate_each-clause-extends
returns-in_err-equate_each-clause-extends c = Extends-trans c.fresh_function.ensures.extends (Extends-trans c.signature.ensures.extends c.equate_each.ensures.extends)

pub returns-clause-extends : goal.returns-clause-extends
returns-clause-extends c = Extends-trans c.fresh_function.ensures.extends (Extends-trans c.signature.ensures.extends c.equate_each.ensures.extends)
