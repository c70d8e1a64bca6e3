use Rattle.std.proofs.Common.{arith}
use Rattle.std.proofs.lemmas.Grind.{common_steps}
use Rattle.tt_calls.proofs.build.existentials.existential_kind.Goals as goal

pub returns-in-Trait-clause-kind : goal.returns-in-Trait-clause-kind
returns-in-Trait-clause-kind c = λ terms. let n = c.trait_at.ensures terms.rows in grind (arith, common_steps)

pub returns-in-Projection-clause-kind : goal.returns-in-Projection-clause-kind
returns-in-Projection-clause-kind c = λ terms. let n = c.def_at.ensures terms.rows in grind (arith, common_steps)

pub returns-in-AutoTrait-clause-kind : goal.returns-in-AutoTrait-clause-kind
returns-in-AutoTrait-clause-kind c = λ terms. let n = c.trait_at-in-AutoTrait.ensures terms.rows in grind (arith, common_steps)
