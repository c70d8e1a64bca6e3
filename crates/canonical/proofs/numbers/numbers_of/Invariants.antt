use Rattle.std.proofs.Common.{◌≡◌, ℕ, take}
use Rattle.tt_interner.specs.Owned.{IsOwned}
use Rattle.tt_interner.specs.Stored.{Extends}
use Rattle.unify.specs.Bindings.{stored, table_shape}
use Rattle.unify.specs.Memo.{entries_in}
use Rattle.canonical.specs.Canonical.{numbered}
use Rattle.canonical.proofs.numbers.numbers_of.Given as goal

-- the first variables have their numbers
abbrev pub invariant-loop-place : goal.invariant-loop-place
invariant-loop-place l = record {
  extends : Extends l.initial.cx l.cx;
  owned : IsOwned table_shape l.cx (entries_in l.numbers.entries);
  binds : (v : ℕ) → stored l.cx (entries_in l.numbers.entries) v ≡ numbered (take l.place l.variables) v;
}
