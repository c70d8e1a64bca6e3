use Rattle.tt_interner.specs.Stored.{Extends}
use Rattle.unify.specs.Bindings.{IsTable}
use Rattle.checker.proofs.infer.common.first_different.Given as goal

-- the bindings are a table
abbrev pub invariant-loop-index : goal.invariant-loop-index
invariant-loop-index l = record {
  extends : Extends l.initial.cx l.cx;
  table : IsTable l.cx l.bindings;
}
