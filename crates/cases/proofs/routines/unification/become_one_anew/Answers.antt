use Rattle.std.proofs.Common.{subst, sym}
use Rattle.unify.specs.Bindings.{IsTable}
use Rattle.unify.proofs.UnificationLaws.{empty_table}
use Rattle.cases.proofs.routines.unification.become_one_anew.Goals as goal

pub add_two-requires : goal.add_two-requires
add_two-requires c = subst (IsTable c.args.cx.now) (sym c.new-bindings.ensures) (empty_table c.args.cx.now)
