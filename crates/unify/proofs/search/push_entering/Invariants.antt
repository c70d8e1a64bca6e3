use Rattle.std.proofs.Common.{◌≡◌, ◌++◌, take}
use Rattle.unify.specs.Search.{entering, steps_in}
use Rattle.unify.proofs.search.push_entering.Given as goal

-- the variables so far are to be entered
abbrev pub invariant-loop-variable : goal.invariant-loop-variable
invariant-loop-variable l =
    steps_in l.pending.items ≡ steps_in l.initial.pending.items ++ entering (take l.variable-index l.variables)
