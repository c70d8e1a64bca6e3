use Rattle.std.proofs.Common.{take}
use Rattle.tt_interner.specs.Stored.{Extends}
use Rattle.unify.specs.Memo.{entries_in, AreSettled, Settles}
use Rattle.unify.proofs.memo.settled.Given as goal

-- the order is settled up to this place
abbrev pub invariant-loop-place : goal.invariant-loop-place
invariant-loop-place l = record {
  extends : Extends l.initial.cx l.cx;
  settles : Settles l.cx l.entries (entries_in l.memo.entries);
  done : AreSettled l.cx l.entries (entries_in l.memo.entries) (take l.place l.order);
}
