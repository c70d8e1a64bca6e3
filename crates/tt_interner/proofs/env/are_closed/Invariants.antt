-- the rest of the list decides
use Rattle.std.proofs.Common.{◌↔◌, drop}
use Rattle.tt_interner.specs.Env.{AreClosed}
use Rattle.tt_interner.proofs.env.are_closed.Given as goal

abbrev pub invariant-loop-clause : goal.invariant-loop-clause
invariant-loop-clause l = AreClosed l.cx.rows (drop l.clause-index l.clauses) ↔ AreClosed l.cx.rows l.clauses
