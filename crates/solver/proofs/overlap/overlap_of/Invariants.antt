use Rattle.tt_interner.specs.Stored.{Extends}
use Rattle.solver.specs.Overlap.{AreApart}
use Rattle.solver.specs.Program.{impl_in}
use Rattle.solver.proofs.OutcomeLaws.{HoldsBelow}
use Rattle.solver.proofs.overlap.overlap_of.Given as goal

-- the first implementations are apart from this one
abbrev pub invariant-loop-first : goal.invariant-loop-first
invariant-loop-first l = record {
  extends : Extends l.initial.cx l.cx;
  apart : HoldsBelow (λ i. AreApart (impl_in l.initial.cx i) (impl_in l.initial.cx l.implementation)) l.program l.first;
}
