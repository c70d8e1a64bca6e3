use Rattle.tt_interner.specs.Stored.{Extends}
use Rattle.solver_programs.proofs.refutations.write_refutation.Given as goal

-- the interner grows
abbrev pub invariant-loop-index : goal.invariant-loop-index
invariant-loop-index l = Extends l.initial.cx l.cx
