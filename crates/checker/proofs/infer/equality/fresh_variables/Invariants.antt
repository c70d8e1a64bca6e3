use Rattle.tt_kinds.specs.Kinds.{ty_shape}
use Rattle.tt_interner.specs.Owned.{AreOwned}
use Rattle.tt_interner.specs.Stored.{Extends}
use Rattle.unify.specs.Bindings.{IsTable}
use Rattle.checker.proofs.infer.equality.fresh_variables.Given as goal

-- the variables are the interner's
abbrev pub invariant-loop : goal.invariant-loop
invariant-loop l = record {
  extends : Extends l.initial.cx l.cx;
  table : IsTable l.cx l.bindings;
  owned : AreOwned ty_shape l.cx l.variables.items;
}
