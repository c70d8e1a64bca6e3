use Rattle.tt_kinds.specs.Kinds.{handle_shape}
use Rattle.tt_interner.specs.Owned.{AreOwned}
use Rattle.tt_fold.specs.Steps.{tree_in}
use Rattle.std.specs.Prelude.{◌≡◌, ◌≤◌, ℕ, Some, slice_get}
use Rattle.tt_kinds.specs.Tree.{Depth, Tree}
use Rattle.tt_kinds.specs.declared.parts.Child.{Child}
use Rattle.tt_interner.specs.Children.{children_at}
use Rattle.unify.specs.Comparison.{IsPairOf, PendingIn}
use Rattle.unify.proofs.TriangularLoop.{pair_of}
use Rattle.unify.specs.Pairs.{pair_shape, EquatesAll}
use Rattle.unify.specs.Substitution.{Assignment, assign}
use Rattle.unify.proofs.pairs.push_items.Given as goal

-- the pairs are the interner's, equal where the lists are, and have the children from this place on
abbrev pub invariant-loop-place : goal.invariant-loop-place
invariant-loop-place l = record {
  owned : AreOwned pair_shape l.cx l.pairs.items;
  general : (ρ : Assignment) → assign ρ (tree_in l.cx.rows (handle_shape l.fn.left)) ≡ assign ρ (tree_in l.cx.rows (handle_shape l.fn.right))
      → EquatesAll ρ l.cx l.initial.pairs.items → EquatesAll ρ l.cx l.pairs.items;
  others : (t u : Tree Depth) → PendingIn l.cx l.initial.pairs.items t u → PendingIn l.cx l.pairs.items t u;
  pending : (i : ℕ) (c d : Child) → l.place ≤ i → slice_get (children_at l.cx.rows l.fn.left) i ≡ Some c
      → slice_get (children_at l.cx.rows l.fn.right) i ≡ Some d → (t u : Tree Depth) → IsPairOf l.cx (pair_of c d) t u
      → PendingIn l.cx l.pairs.items t u;
}
