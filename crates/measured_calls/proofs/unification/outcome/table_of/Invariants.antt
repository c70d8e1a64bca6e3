use Rattle.tt_interner.specs.Stored.{Extends}
use Rattle.unify.specs.Bindings.{IsTable}
use Rattle.measured_calls.proofs.unification.outcome.table_of.Given as goal

-- the interner has only grown, and the bindings are a table
abbrev pub invariant-loop : goal.invariant-loop
invariant-loop l = record {
  extends : Extends l.initial.cx l.cx;
  table : IsTable l.cx l.bindings;
}
