use Rattle.checker.proofs.FormedLaws.{AllBelow, IsMarkedArgument}
use Rattle.checker.proofs.verify.formed.are_arguments_marked.Given as goal

-- the first arguments are marked types
abbrev pub invariant-loop-index : goal.invariant-loop-index
invariant-loop-index l = AllBelow (IsMarkedArgument l.marks) l.items l.index
