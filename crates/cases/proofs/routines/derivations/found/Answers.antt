use Rattle.std.proofs.Common.{subst, sym}
use Rattle.unify.specs.Bindings.{IsTable}
use Rattle.unify.proofs.UnificationLaws.{empty_table}
use Rattle.cases.proofs.routines.derivations.found.Goals as goal

pub found_with-requires-clause-table : goal.found_with-requires-clause-table
found_with-requires-clause-table c = subst (IsTable c.args.cx.now) (sym c.new-bindings.ensures) (empty_table c.args.cx.now)
