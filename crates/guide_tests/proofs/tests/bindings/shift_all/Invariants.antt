use Rattle.std.proofs.Common.{◌≡◌, length}
use Rattle.tt_kinds.specs.Kinds.{ty_shape}
use Rattle.tt_interner.specs.Owned.{AreOwned}
use Rattle.tt_interner.specs.Stored.{Extends}
use Rattle.guide_tests.proofs.tests.bindings.shift_all.Given as goal

-- the interner has only grown, and the types are its own
abbrev pub invariant-loop-place : goal.invariant-loop-place
invariant-loop-place l = record {
  extends : Extends l.initial.cx l.cx;
  owned : AreOwned ty_shape l.cx l.types.items;
  len : length l.types.items ≡ l.place-end;
}
