use Rattle.tt_kinds.specs.Kinds.{ty_shape}
use Rattle.tt_interner.specs.Owned.{AreOwned, IsOwned}
use Rattle.tt_interner.specs.Stored.{Extends}
use Rattle.unify.specs.Bindings.{IsTable}
use Rattle.checker.proofs.infer.known_items.Given as goal

-- the tuple and the items so far are the interner's
abbrev pub invariant-loop-number : goal.invariant-loop-number
invariant-loop-number l = record {
  extends : Extends l.initial.cx l.cx;
  table : IsTable l.cx l.bindings;
  all : IsOwned ty_shape l.cx l.all;
  known : AreOwned ty_shape l.cx l.known.items;
}
