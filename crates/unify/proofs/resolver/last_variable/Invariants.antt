use Rattle.std.proofs.Common.{◌≡◌, ◌<◌, ◌+◌, length, Some}
use Rattle.tt_kinds.specs.Tree.{Depth, Tree}
use Rattle.unify.specs.Bindings.{stored}
use Rattle.unify.specs.Resolver.{IsLinked}
use Rattle.unify.specs.Substitution.{Assignment, Solves}
use Rattle.unify.specs.Triangular.{links, IsAcyclic}
use Rattle.unify.proofs.TriangularLaws.{count}
use Rattle.unify.proofs.resolver.last_variable.Given as goal

-- each assignment gives the variable what it gives the first one, and each step leaves fewer variables below
abbrev pub invariant-loop : goal.invariant-loop
invariant-loop l = record {
  same : (ρ : Assignment) → Solves ρ (stored l.cx l.entries) → ρ l.variable ≡ ρ l.fn.variable;
  chain : IsLinked (stored l.cx l.entries) l.fn.variable l.variable;
  below : (acyclic : IsAcyclic (links (stored l.cx l.entries))) (r : Tree Depth) → stored l.cx l.entries l.variable ≡ Some r
      → count acyclic.rank (acyclic.rank l.variable) (length l.entries) + l.counter < length l.entries;
}
