use Rattle.std.proofs.Common.{arith}
use Rattle.std.proofs.lemmas.Grind.{common_steps}
use Rattle.tt_calls.proofs.build.predicates.clause_kind.Goals as goal

pub returns-in-Trait-clause-kind : goal.returns-in-Trait-clause-kind
returns-in-Trait-clause-kind c = λ rows. let n = c.trait_at.ensures rows in grind (arith, common_steps)

pub returns-in-Projection-clause-kind : goal.returns-in-Projection-clause-kind
returns-in-Projection-clause-kind c = λ rows. let n = c.def_at.ensures rows in grind (arith, common_steps)

pub returns-in-HostEffect-clause-kind : goal.returns-in-HostEffect-clause-kind
returns-in-HostEffect-clause-kind c = λ rows. let n = c.trait_at-in-HostEffect.ensures rows in grind (arith, common_steps)
