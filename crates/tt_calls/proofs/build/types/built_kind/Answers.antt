use Rattle.std.proofs.Common.{arith}
use Rattle.std.proofs.lemmas.Grind.{common_steps}
use Rattle.tt_calls.proofs.build.types.built_kind.Goals as goal

pub returns-in-Foreign-clause-kind : goal.returns-in-Foreign-clause-kind
returns-in-Foreign-clause-kind c = λ rows. let n = c.number_at.ensures rows in grind (arith, common_steps)

pub returns-in-Bound-clause-kind : goal.returns-in-Bound-clause-kind
returns-in-Bound-clause-kind c = λ rows. let n = c.ty_name-kind.ensures rows in grind (arith, common_steps)

pub returns-in-Placeholder-clause-kind : goal.returns-in-Placeholder-clause-kind
returns-in-Placeholder-clause-kind c = λ rows. let n = c.ty_name-kind-in-Placeholder.ensures rows in grind (arith, common_steps)

pub returns-in-Item-clause-kind : goal.returns-in-Item-clause-kind
returns-in-Item-clause-kind c = λ rows. let n = c.item_kind.ensures rows in grind (arith, common_steps)
