use Rattle.std.proofs.Common.{◌≡◌, ◌≤◌, length, take}
use Rattle.tt_interner.proofs.tables.short_key.Given as goal

-- the items so far are the list's first ones, and there is room for four
abbrev pub invariant-loop-item : goal.invariant-loop-item
invariant-loop-item l = (l.key.items ≡ take l.item-index l.items) × (l.key.capacity ≡ 4) × (length l.items ≤ 4)
