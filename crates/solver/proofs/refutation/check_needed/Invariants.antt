use Rattle.tt_interner.specs.Stored.{Extends}
use Rattle.solver.proofs.refutation.check_needed.Given as goal

-- the interner only grew
abbrev pub invariant-loop-index : goal.invariant-loop-index
invariant-loop-index l = Extends l.initial.cx l.cx
