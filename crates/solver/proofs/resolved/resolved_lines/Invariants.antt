use Rattle.tt_interner.specs.Stored.{Extends}
use Rattle.solver.proofs.resolved.resolved_lines.Given as goal

-- the interner grows
abbrev pub invariant-loop-number : goal.invariant-loop-number
invariant-loop-number l = Extends l.initial.cx l.cx
