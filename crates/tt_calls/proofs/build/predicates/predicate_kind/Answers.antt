use Rattle.std.proofs.Common.{arith, ap}
use Rattle.std.proofs.lemmas.Grind.{common_steps}
use Rattle.tt_kinds.specs.Label.{predicate_label}
use Rattle.tt_kinds.specs.Shape as shape
use Rattle.tt_calls.proofs.build.predicates.predicate_kind.Goals as goal

pub returns-in-Clause-clause-kind : goal.returns-in-Clause-clause-kind
returns-in-Clause-clause-kind c = λ rows.
    rw (c.in-Clause.is, c.bind_with_vars.ensures)
    (ap (λ s. shape.term predicate_label (shape.also (shape.binder c.args.built.now.vars.number s) shape.none)) (c.clause_kind.ensures.kind rows))

pub returns-in-DynCompatible-clause-kind : goal.returns-in-DynCompatible-clause-kind
returns-in-DynCompatible-clause-kind c = λ rows. let n = c.trait_at.ensures rows in grind (arith, common_steps)

pub returns-in-NormalizesTo-clause-kind : goal.returns-in-NormalizesTo-clause-kind
returns-in-NormalizesTo-clause-kind c = λ rows. let n = c.def_at.ensures rows in grind (arith, common_steps)
