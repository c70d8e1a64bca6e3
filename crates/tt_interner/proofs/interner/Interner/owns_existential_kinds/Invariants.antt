-- the predicates so far are the interner's
use Rattle.std.proofs.Common.{take}
use Rattle.tt_interner.specs.Existentials.{HaveParts}
use Rattle.tt_interner.proofs.interner.Interner.owns_existential_kinds.Given as goal

abbrev pub invariant-loop-kind : goal.invariant-loop-kind
invariant-loop-kind l = HaveParts l.self.rows (take l.kind-index l.kinds)
