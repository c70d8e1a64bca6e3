use Rattle.tt_kinds.specs.Kinds.{ty_shape}
use Rattle.tt_interner.specs.Owned.{AreOwned}
use Rattle.checker.proofs.LookupLaws.{AreFirst}
use Rattle.checker.proofs.lookup.types_before.Given as goal

-- the types of the first numbers were found
abbrev pub invariant-loop-index : goal.invariant-loop-index
invariant-loop-index l = record {
  owned : AreOwned ty_shape l.cx l.found.items;
  first : AreFirst l.types l.limit l.numbers l.found.items l.index;
}
