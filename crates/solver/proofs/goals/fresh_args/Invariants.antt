use Rattle.std.specs.Prelude.{◌≡◌, ◌+◌, ◌≤◌, length}
use Rattle.tt_kinds.specs.Kinds.{arg_shape}
use Rattle.tt_interner.specs.Arguments.{arguments}
use Rattle.tt_interner.specs.Owned.{AreOwned}
use Rattle.unify.specs.Bindings.{substitution}
use Rattle.unify.specs.Substitution.{Assignment, Solves}
use Rattle.solver.specs.Refutation.{variables_from}
use Rattle.solver.specs.Search.{Continues}
use Rattle.solver.proofs.goals.fresh_args.Given as goal

-- the table goes on with so many variables, which are the items
abbrev pub invariant-loop : goal.invariant-loop
invariant-loop l = record {
  continues : Continues l.initial.cx l.initial.bindings l.cx l.bindings;
  owned : AreOwned arg_shape l.cx l.items.items;
  counted : length l.bindings.entries ≡ length l.initial.bindings.entries + l.counter;
  are : arguments l.cx.rows l.items.items ≡ variables_from (length l.initial.bindings.entries) l.counter;
  within : l.counter ≤ l.count;
  solved : (ρ : Assignment) → Solves ρ (substitution l.initial.cx l.initial.bindings) → Solves ρ (substitution l.cx l.bindings);
}
