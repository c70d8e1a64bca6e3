use Rattle.std.proofs.Common.{◌≡◌, ◌*◌}
use Rattle.tt_kinds.specs.Kinds.{ty_shape}
use Rattle.tt_kinds.specs.Plain.{shift_tree}
use Rattle.tt_interner.specs.Owned.{IsOwned, tree_in}
use Rattle.tt_interner.specs.Stored.{Extends}
use Rattle.laws.proofs.shifting.shifted_times.Given as goal

-- the interner has only grown, and the type is shifted as often as the loop has run
abbrev pub invariant-loop : goal.invariant-loop
invariant-loop l = record {
  extends : Extends l.initial.cx l.cx;
  owned : IsOwned ty_shape l.cx l.shifted;
  tree : tree_in l.cx.rows (ty_shape l.shifted) ≡ shift_tree 0 (l.counter * l.amount) (tree_in l.initial.cx.rows (ty_shape l.initial.shifted));
}
