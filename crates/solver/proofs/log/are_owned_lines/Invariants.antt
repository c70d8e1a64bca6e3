use Rattle.solver.specs.Log.{IsOwnedLine}
use Rattle.solver.proofs.OutcomeLaws.{HoldsBelow}
use Rattle.solver.proofs.log.are_owned_lines.Given as goal

-- the first lines are the interner's
abbrev pub invariant-loop-line : goal.invariant-loop-line
invariant-loop-line l = HoldsBelow (IsOwnedLine l.cx) l.lines l.line-index
