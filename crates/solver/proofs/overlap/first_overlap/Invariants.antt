use Rattle.tt_interner.specs.Stored.{Extends}
use Rattle.solver.proofs.OverlapLaws.{AreApartBelow}
use Rattle.solver.proofs.overlap.first_overlap.Given as goal

-- each of the first implementations is apart from those before it
abbrev pub invariant-loop-second : goal.invariant-loop-second
invariant-loop-second l = record {
  extends : Extends l.initial.cx l.cx;
  apart : AreApartBelow l.initial.cx l.program l.second;
}
