use Rattle.std.proofs.Common.{◌≡◌, ◌<◌, ◌+◌, ℕ, length, Some}
use Rattle.tt_kinds.specs.Tree.{Depth, Tree}
use Rattle.tt_kinds.specs.Kinds.{ty_shape}
use Rattle.tt_interner.specs.Owned.{IsOwned}
use Rattle.tt_fold.specs.Steps.{tree_in}
use Rattle.unify.specs.Bindings.{stored}
use Rattle.unify.specs.Pairs.{EquatesTypes}
use Rattle.unify.specs.Substitution.{variable_in, Assignment, Solves}
use Rattle.unify.specs.Triangular.{links, IsAcyclic}
use Rattle.unify.proofs.TriangularLaws.{count}
use Rattle.unify.proofs.resolver.shallow_resolved.Given as goal

-- each assignment makes the type what it makes the first one, and each step leaves fewer variables below
abbrev pub invariant-loop : goal.invariant-loop
invariant-loop l = record {
  owned : IsOwned ty_shape l.cx l.ty;
  same : (ρ : Assignment) → Solves ρ (stored l.cx l.entries) → EquatesTypes ρ l.cx l.fn.ty l.ty;
  below : (acyclic : IsAcyclic (links (stored l.cx l.entries))) (v : ℕ) (r : Tree Depth)
      → variable_in (tree_in l.cx.rows (ty_shape l.ty)) ≡ Some v → stored l.cx l.entries v ≡ Some r
      → count acyclic.rank (acyclic.rank v) (length l.entries) + l.counter < length l.entries;
}
