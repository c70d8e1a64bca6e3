use Rattle.std.proofs.Common.{sym, subst}
use Rattle.unify.specs.Bindings.{IsTable}
use Rattle.unify.proofs.UnificationLaws.{empty_table}
use Rattle.solver.proofs.needs.conditions_of.Goals as goal

pub head_of-requires : goal.head_of-requires
head_of-requires c = subst (IsTable c.args.cx.now) (sym c.new-bindings.ensures) (empty_table c.args.cx.now)
