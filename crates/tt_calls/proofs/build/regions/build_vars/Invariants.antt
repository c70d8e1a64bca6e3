use Rattle.std.proofs.Common.{List, take}
use Rattle.tt_interner.specs.Rows.{Row}
use Rattle.tt_interner.specs.Stored.{Extends}
use Rattle.tt_calls.specs.Told.{told_all}
use Rattle.tt_calls.specs.Means.{number_at}
use Rattle.tt_calls.specs.Build.{AreVariablesOf}
use Rattle.tt_calls.proofs.build.regions.build_vars.Given as goal

abbrev pub invariant-loop-var : goal.invariant-loop-var
invariant-loop-var l = Extends l.fn.cx l.cx × ((rows : List Row) → AreVariablesOf l.cx (number_at (told_all rows l.earlier)) (take l.var-index l.vars) l.built.items)
