use Rattle.tt_interner.specs.Stored.{Extends}
use Rattle.checker.specs.Scope.{argument_trees, around}
use Rattle.checker.proofs.InstanceLaws.{AreFitBelow}
use Rattle.checker.proofs.verify.instances.verify_each.Given as goal

-- the first operands fit
abbrev pub invariant-loop-index : goal.invariant-loop-index
invariant-loop-index l = record {
  extends : Extends l.initial.cx l.cx;
  fit : AreFitBelow (around l.initial.cx l.scope) l.number (argument_trees l.initial.cx l.args) l.declared l.operands l.index;
}
