-- by the next clause
use Rattle.tt_interner.proofs.EnvSteps.{clause_at_place}
use Rattle.tt_interner.proofs.env.are_closed.Goals as goal

pub is_closed-requires : goal.is_closed-requires
is_closed-requires c = clause_at_place c.args.cx.now.rows c.args.clauses.now c.loop-clause.clause-index _ c.loop-clause-test.true c.requires
