use Rattle.tt_interner.specs.Stored.{Extends}
use Rattle.solver.specs.Log.{IsMet}
use Rattle.solver.proofs.OutcomeLaws.{HoldsBelow}
use Rattle.solver.proofs.verifier.check_conditions.Given as goal

-- the first conditions are met
abbrev pub invariant-loop-index : goal.invariant-loop-index
invariant-loop-index l = record {
  extends : Extends l.initial.cx l.cx;
  met : HoldsBelow (IsMet l.initial.cx l.args l.lines) l.conditions l.index;
}
