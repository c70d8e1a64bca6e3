use Rattle.tt_interner.proofs.Growth.{Extends-trans}
use Rattle.unify.proofs.UnificationLaws.{table_stays}
use Rattle.checker.proofs.infer.resolved.Goals as goal

pub resolve-requires-clause-table : goal.resolve-requires-clause-table
resolve-requires-clause-table c = table_stays c.args.cx.now c.tuple_of.new.cx c.args.bindings.now c.tuple_of.ensures.extends c.requires.table

pub returns-in_err-whole-clause-table : goal.returns-in_err-whole-clause-table
returns-in_err-whole-clause-table c = table_stays c.args.cx.now c.tuple_of.new.cx c.args.bindings.now c.tuple_of.ensures.extends c.requires.table

pub returns-clause-extends : goal.returns-clause-extends
returns-clause-extends c = Extends-trans c.tuple_of.ensures.extends (Extends-trans c.resolve.ensures.extends c.known_items.ensures.extends)
