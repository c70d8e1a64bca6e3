use Rattle.std.proofs.Common.{take}
use Rattle.tt_interner.specs.Stored.{Extends}
use Rattle.solver.specs.Log.{AreDerived}
use Rattle.solver.proofs.verifier.verify.Given as goal

-- the first lines are derived
abbrev pub invariant-loop-number : goal.invariant-loop-number
invariant-loop-number l = record {
  extends : Extends l.initial.cx l.cx;
  derived : AreDerived l.initial.cx l.program l.assumptions (take l.number l.lines);
}
