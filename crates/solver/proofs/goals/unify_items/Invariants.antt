use Rattle.std.specs.Prelude.{length}
use Rattle.unify.specs.Bindings.{substitution}
use Rattle.solver.specs.Search.{Continues}
use Rattle.solver.proofs.EquationLaws.{ForcesItems}
use Rattle.solver.proofs.goals.unify_items.Given as goal

-- the table goes on, and what makes all items equal solves the bindings so far
abbrev pub invariant-loop-index : goal.invariant-loop-index
invariant-loop-index l = record {
  continues : Continues l.initial.cx l.initial.bindings l.cx l.bindings;
  forces : ForcesItems (length l.initial.bindings.entries) (substitution l.initial.cx l.initial.bindings) l.initial.cx l.lefts l.rights
      (substitution l.cx l.bindings);
}
