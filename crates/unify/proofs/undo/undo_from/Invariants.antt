use Rattle.std.proofs.Common.{◌≡◌, ◌≤◌, ℕ, length, take}
use Rattle.unify.specs.Undo.{entries_at}
use Rattle.unify.proofs.undo.undo_from.Given as goal

-- with the bindings that stay, the table is what it was
abbrev pub invariant-loop-table : goal.invariant-loop-table
invariant-loop-table l = record {
  few : l.bindings ≤ length l.table.bound.items;
  len : length l.table.entries.items ≡ length l.initial.table.entries.items;
  bound : take l.bindings l.table.bound.items ≡ take l.bindings l.initial.table.bound.items;
  entries : (n : ℕ) → entries_at n l.bindings l.table.bound.items l.table.entries.items
      ≡ entries_at n l.bindings l.initial.table.bound.items l.initial.table.entries.items;
}

abbrev pub decreases-loop-table : goal.decreases-loop-table
decreases-loop-table l = goal.left-loop-table l
