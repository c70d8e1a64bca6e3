use Rattle.std.proofs.Common.{subst, sym}
use Rattle.unify.specs.Bindings.{IsTable}
use Rattle.unify.proofs.UnificationLaws.{empty_table}
use Rattle.cases.proofs.routines.refutations.refutation.Goals as goal

pub refutation_with-requires-clause-table : goal.refutation_with-requires-clause-table
refutation_with-requires-clause-table c = subst (IsTable c.args.cx.now) (sym c.new-bindings.ensures) (empty_table c.args.cx.now)
