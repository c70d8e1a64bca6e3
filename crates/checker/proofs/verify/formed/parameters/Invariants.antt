use Rattle.std.proofs.Common.{◌≡◌, length}
use Rattle.tt_interner.specs.Stored.{Extends}
use Rattle.checker.specs.Scope.{AreParameters}
use Rattle.checker.proofs.verify.formed.parameters.Given as goal

-- the types are the first type parameters
abbrev pub invariant-loop-index : goal.invariant-loop-index
invariant-loop-index l = record {
  extends : Extends l.initial.cx l.cx;
  are : AreParameters l.cx l.program l.function l.types.items;
  counted : length l.types.items ≡ l.index;
}
