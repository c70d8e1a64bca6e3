use Rattle.tt_kinds.specs.Kinds.{ty_shape}
use Rattle.tt_interner.specs.Owned.{IsOwned}
use Rattle.tt_fold.specs.Steps.{tree_in}
use Rattle.checker.specs.Typing.{Reaches}
use Rattle.checker.proofs.types.without_references.Given as goal

-- the type is the interner's, and is reached
abbrev pub invariant-loop : goal.invariant-loop
invariant-loop l = record {
  owned : IsOwned ty_shape l.cx l.inner;
  reaches : Reaches (tree_in l.cx.rows (ty_shape l.initial.inner)) (tree_in l.cx.rows (ty_shape l.inner));
}
