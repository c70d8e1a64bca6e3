use Rattle.tt_interner.specs.Stored.{Extends}
use Rattle.checker.specs.Scope.{around}
use Rattle.checker.proofs.TypingLaws.{AreTypedBelow}
use Rattle.checker.proofs.verify.verify_all.Given as goal

-- the first expressions have their types
abbrev pub invariant-loop-number : goal.invariant-loop-number
invariant-loop-number l = record {
  extends : Extends l.initial.cx l.cx;
  typed : AreTypedBelow (around l.initial.cx l.scope) l.scope.body.now.expressions.items l.number;
}
