use Rattle.std.proofs.Common.{◌≡◌, length}
use Rattle.tt_kinds.specs.Kinds.{arg_shape}
use Rattle.tt_interner.specs.Owned.{AreOwned}
use Rattle.tt_interner.specs.Stored.{Extends}
use Rattle.unify.specs.Bindings.{substitution}
use Rattle.solver.specs.Search.{ArePlain}
use Rattle.solver.proofs.goals.resolved_items.Given as goal

-- the first arguments are resolved
abbrev pub invariant-loop-index : goal.invariant-loop-index
invariant-loop-index l = record {
  extends : Extends l.initial.cx l.cx;
  counted : length l.resolved.items ≡ l.index;
  owned : AreOwned arg_shape l.cx l.resolved.items;
  plain : ArePlain (substitution l.initial.cx l.bindings) l.initial.cx l.items l.cx l.resolved.items;
}
