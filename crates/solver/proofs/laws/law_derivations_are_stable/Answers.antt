use Rattle.solver.proofs.DerivationLaws.{stable}
use Rattle.solver.proofs.laws.law_derivations_are_stable.Goals as goal

pub returns : goal.returns
returns c = stable
