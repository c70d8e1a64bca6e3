use Rattle.std.proofs.Common.{◌≡◌, ◌+◌, ℕ, length}
use Rattle.tt_interner.specs.Children.{children_at}
use Rattle.canonical.specs.Canonical.{collect_all}
use Rattle.canonical.specs.Search.{Pushes}
use Rattle.canonical.proofs.SearchSteps.{from_place}
use Rattle.canonical.proofs.search.push_parts.Given as goal

-- the last items are pushed, as many as there were rounds
abbrev pub invariant-loop-place : goal.invariant-loop-place
invariant-loop-place l = (k : ℕ) → k + l.place ≡ length (children_at l.cx.rows l.fn.handle)
    → Pushes l.cx l.initial.pending.items (collect_all (from_place l.cx k (children_at l.cx.rows l.fn.handle)))
    l.pending.items
