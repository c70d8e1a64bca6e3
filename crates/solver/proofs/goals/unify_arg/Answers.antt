use Rattle.solver.proofs.SearchLaws.{continues_itself}
use Rattle.solver.proofs.goals.unify_arg.Goals as goal

pub returns-in_default-clause-continues : goal.returns-in_default-clause-continues
returns-in_default-clause-continues c = continues_itself c.requires.table
