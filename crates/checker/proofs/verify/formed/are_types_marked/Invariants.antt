use Rattle.checker.specs.Scope.{IsMarked}
use Rattle.checker.proofs.FormedLaws.{AllBelow}
use Rattle.checker.proofs.verify.formed.are_types_marked.Given as goal

-- the first types are marked
abbrev pub invariant-loop-index : goal.invariant-loop-index
invariant-loop-index l = AllBelow (IsMarked l.marks) l.types l.index
