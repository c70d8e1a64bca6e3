use Rattle.unify.specs.Bindings.{stored}
use Rattle.unify.specs.Search.{steps_in, Searches}
use Rattle.unify.specs.Triangular.{IsChild}
use Rattle.unify.proofs.search.reached.Given as goal

-- how far the search is
abbrev pub invariant-loop : goal.invariant-loop
invariant-loop l = Searches (IsChild (stored l.cx l.entries)) l.fn.starts
    (steps_in l.search.pending.items) l.search.entered.keys l.search.done.keys
