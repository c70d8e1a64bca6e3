use Rattle.tt_interner.specs.Stored.{Extends}
use Rattle.unify.specs.Bindings.{IsTable}
use Rattle.checker.proofs.infer.common.unify_common.Given as goal

-- the bindings are a table
abbrev pub invariant-loop : goal.invariant-loop
invariant-loop l = record {
  extends : Extends l.initial.cx l.cx;
  table : IsTable l.cx l.bindings;
}
