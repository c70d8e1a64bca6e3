use Rattle.unify.proofs.UnificationLaws.{substitution_stays, table_stays}
use Rattle.unify.proofs.bindings.Bindings.resolve.Goals as goal

pub returns-clause-table : goal.returns-clause-table
returns-clause-table c = table_stays c.args.cx.now c.resolved.new.cx c.args.self.now c.resolved.ensures.extends c.requires.table

pub returns-clause-same : goal.returns-clause-same
returns-clause-same c = substitution_stays c.args.cx.now c.resolved.new.cx c.args.self.now c.resolved.ensures.extends c.requires.table
