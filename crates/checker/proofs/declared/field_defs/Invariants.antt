use Rattle.tt_interner.specs.Stored.{Extends}
use Rattle.checker.proofs.declared.field_defs.Given as goal

-- the interner has only grown
abbrev pub invariant-loop-field : goal.invariant-loop-field
invariant-loop-field l = Extends l.initial.cx l.cx
