-- by the next clause
use Rattle.tt_interner.proofs.EnvSteps.{clause_at_place}
use Rattle.tt_interner.proofs.env.one_type.Goals as goal

pub type_given-requires : goal.type_given-requires
type_given-requires c = clause_at_place c.args.cx.now.rows c.args.clauses.now c.loop-clause.clause-index _ c.loop-clause-test.true c.requires
