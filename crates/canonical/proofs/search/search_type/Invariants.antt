use Rattle.std.proofs.Common.{◌≡◌}
use Rattle.tt_kinds.specs.Kinds.{ty_shape}
use Rattle.tt_interner.specs.Owned.{tree_in}
use Rattle.canonical.specs.Canonical.{collect}
use Rattle.canonical.specs.Search.{collect_pending, AreGood, AreKnown}
use Rattle.canonical.proofs.search.search_type.Given as goal

-- how far the search is
abbrev pub invariant-loop : goal.invariant-loop
invariant-loop l = record {
  known : AreKnown l.cx.rows l.search.seen.keys l.search.found.keys;
  good : AreGood l.cx l.pending.items l.search.found.keys;
  all : collect_pending l.cx l.pending.items l.search.found.keys
      ≡ collect (tree_in l.cx.rows (ty_shape l.fn.ty)) l.initial.search.found.keys;
}
