use Rattle.tt_interner.specs.Stored.{Extends}
use Rattle.solver.proofs.OutcomeLaws.{HoldsBelow}
use Rattle.solver.proofs.ProgramLaws.{IsWrittenFor}
use Rattle.solver.proofs.program.check_impl.Given as goal

-- the first conditions could be declared
abbrev pub invariant-loop-condition : goal.invariant-loop-condition
invariant-loop-condition l = record {
  extends : Extends l.fn.cx l.cx;
  written : HoldsBelow (IsWrittenFor l.fn.cx l.args) l.implementation.conditions.items l.condition-index;
}
