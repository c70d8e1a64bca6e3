use Rattle.std.proofs.Common.{take}
use Rattle.tt_calls.specs.Told.{told_all}
use Rattle.tt_calls.specs.Build.{AreClausesAt}
use Rattle.tt_calls.proofs.build.clauses.clauses_at.Given as goal

abbrev pub invariant-loop-position : goal.invariant-loop-position
invariant-loop-position l = AreClausesAt l.cx (told_all l.cx.rows l.earlier) (take l.position-index l.positions) l.clauses.items
