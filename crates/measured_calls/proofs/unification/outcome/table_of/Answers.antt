use Rattle.std.proofs.Common.{subst, sym}
use Rattle.tt_interner.proofs.Growth.{Extends-refl, Extends-trans}
use Rattle.unify.specs.Bindings.{IsTable}
use Rattle.unify.proofs.UnificationLaws.{empty_table}
use Rattle.measured_calls.proofs.unification.outcome.table_of.Goals as goal

pub loop-init : goal.loop-init
loop-init c = record {
  extends = Extends-refl c.args.cx.now;
  table = subst (IsTable c.args.cx.now) (sym c.new-bindings.ensures) (empty_table c.args.cx.now);
}

pub returns-in_err-new_variable-clause-extends : goal.returns-in_err-new_variable-clause-extends
returns-in_err-new_variable-clause-extends c = Extends-trans c.loop.invariant.extends c.new_variable.ensures.extends

pub loop-preserved : goal.loop-preserved
loop-preserved c = record {
  extends = Extends-trans c.loop.invariant.extends c.new_variable.ensures.extends;
  table = c.new_variable.ensures.table;
}
