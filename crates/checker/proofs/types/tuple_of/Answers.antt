use Rattle.std.proofs.Common.{Ok}
use Rattle.checker.proofs.TreeLaws.{tuple_built}
use Rattle.checker.proofs.types.tuple_of.Goals as goal

pub returns-clause-extends : goal.returns-clause-extends
returns-clause-extends c = c.mk_tuple.ensures.extends

pub returns-clause-is : goal.returns-clause-is
returns-clause-is c =
    tuple_built c.args.cx.now c.mk_tuple.new.self c.args.items.now (Ok c.in_ok-mk_tuple.field-0) c.in_ok-mk_tuple.ensures.builds
