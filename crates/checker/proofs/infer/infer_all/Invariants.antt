use Rattle.tt_kinds.specs.Kinds.{ty_shape}
use Rattle.tt_interner.specs.Owned.{AreOwned}
use Rattle.tt_interner.specs.Stored.{Extends}
use Rattle.unify.specs.Bindings.{IsTable}
use Rattle.checker.proofs.infer.infer_all.Given as goal

-- the types and the subjects are the interner's
abbrev pub invariant-loop-number : goal.invariant-loop-number
invariant-loop-number l = record {
  extends : Extends l.initial.cx l.cx;
  table : IsTable l.cx l.bindings;
  types : AreOwned ty_shape l.cx l.types.items;
  subjects : AreOwned ty_shape l.cx l.subjects.items;
}
