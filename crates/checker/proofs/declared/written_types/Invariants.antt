use Rattle.tt_interner.specs.Stored.{Extends}
use Rattle.checker.specs.Items.{AreWrittenTypes, numbers}
use Rattle.checker.proofs.declared.written_types.Given as goal

-- the types are the first written ones
abbrev pub invariant-loop-index : goal.invariant-loop-index
invariant-loop-index l = record {
  extends : Extends l.initial.cx l.cx;
  written : AreWrittenTypes l.cx l.program (numbers l.ids) l.types.items l.index;
}
