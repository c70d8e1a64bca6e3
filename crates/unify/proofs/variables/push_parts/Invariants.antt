use Rattle.std.proofs.Common.{◌≡◌, ◌<◌, ◌⊎◌, ℕ, List, Some, slice_get}
use Rattle.tt_kinds.specs.Tree.{Depth, Tree, none, also}
use Rattle.tt_kinds.specs.declared.parts.Child.{Child}
use Rattle.tt_interner.specs.Children.{children_at}
use Rattle.unify.specs.Pairs.{child_trees}
use Rattle.unify.specs.Variables.{AreStored, ChildListed, ListsBelow, TreeIn}
use Rattle.unify.proofs.variables.push_parts.Given as goal

-- the items so far are among the rows
abbrev pub invariant-loop-place : goal.invariant-loop-place
invariant-loop-place l = record {
  stored : AreStored l.cx l.pending.items;
  keeps : (u : Tree Depth) → TreeIn l.cx l.initial.pending.items u → TreeIn l.cx l.pending.items u;
  lists : (found : List ℕ) (n : ℕ) → ListsBelow found n (TreeIn l.cx l.pending.items) → (i : ℕ) (c : Child) → i < l.place
      → slice_get (children_at l.cx.rows l.fn.handle) i ≡ Some c → ChildListed found l.cx n c;
  from : (u : Tree Depth) → TreeIn l.cx l.pending.items u → TreeIn l.cx l.initial.pending.items u
      ⊎ ((i : ℕ) × (c : Child) × (slice_get (children_at l.cx.rows l.fn.handle) i ≡ Some c) × (child_trees l.cx c ≡ also u none));
}
