use Rattle.std.proofs.Common.{take}
use Rattle.tt_calls.specs.Told.{told_all}
use Rattle.tt_calls.specs.Build.{AreClausesAt}
use Rattle.tt_calls.proofs.build.clauses.fill_clauses.Given as goal

abbrev pub invariant-loop-i : goal.invariant-loop-i
invariant-loop-i l = AreClausesAt l.cx (told_all l.cx.rows l.earlier) (take l.i l.positions) (take l.i l.places)
