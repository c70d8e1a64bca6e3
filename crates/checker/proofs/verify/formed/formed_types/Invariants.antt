use Rattle.std.proofs.Common.{◌≡◌, length}
use Rattle.checker.specs.Scope.{AreMarked}
use Rattle.checker.proofs.verify.formed.formed_types.Given as goal

-- the marks of the first types
abbrev pub invariant-loop-number : goal.invariant-loop-number
invariant-loop-number l = record {
  marked : AreMarked l.cx l.scope l.marks.items;
  counted : length l.marks.items ≡ l.number;
}
