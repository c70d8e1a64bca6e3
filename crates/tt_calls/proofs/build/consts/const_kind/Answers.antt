use Rattle.std.proofs.Common.{arith}
use Rattle.std.proofs.lemmas.Grind.{common_steps}
use Rattle.tt_calls.proofs.build.consts.const_kind.Goals as goal

pub returns-in-Unevaluated-clause-kind : goal.returns-in-Unevaluated-clause-kind
returns-in-Unevaluated-clause-kind c = λ rows. let n = c.number_at.ensures rows in grind (arith, common_steps)
