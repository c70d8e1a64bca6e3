use Rattle.tt_interner.specs.Stored.{Extends}
use Rattle.checker.specs.Items.{AreTyped, ids_of}
use Rattle.checker.specs.Scope.{AreTypedFirst}
use Rattle.checker.proofs.programs.typed_bodies.Given as goal

-- the first functions are typed
abbrev pub invariant-loop-number : goal.invariant-loop-number
invariant-loop-number l = record {
  extends : Extends l.initial.cx l.cx;
  owned : AreTyped l.cx l.bodies.items;
  typed : AreTypedFirst l.cx l.program (ids_of l.declared) l.bodies.items l.number;
}
