use Rattle.tt_interner.specs.Stored.{Extends}
use Rattle.solver.proofs.needs.needs_of.Given as goal

-- the interner grows
abbrev pub invariant-loop-implementation : goal.invariant-loop-implementation
invariant-loop-implementation l = Extends l.initial.cx l.cx
