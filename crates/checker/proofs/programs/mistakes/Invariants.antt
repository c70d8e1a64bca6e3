use Rattle.std.proofs.Common.{◌≡◌, []}
use Rattle.tt_interner.specs.Stored.{Extends}
use Rattle.checker.specs.Items.{ids_of}
use Rattle.checker.proofs.ProgramLaws.{HaveTypes}
use Rattle.checker.proofs.programs.mistakes.Given as goal

-- if no mistake was found, the first functions have types
abbrev pub invariant-loop-number : goal.invariant-loop-number
invariant-loop-number l = record {
  extends : Extends l.initial.cx l.cx;
  typed : l.found.items ≡ [] → HaveTypes l.cx l.program (ids_of l.declared) l.number;
}
