-- no variable escapes any of the types
use Rattle.tt_interner.specs.Env.{AreBoundsClosed}
use Rattle.tt_interner.proofs.EnvSteps.{closed_answer}
use Rattle.tt_interner.proofs.env.PlaceholderConstFindConstTy.find_const_ty_from_env.Goals as goal

pub returns-clause-closed : goal.returns-clause-closed
unfolding AreBoundsClosed
returns-clause-closed c h = closed_answer c.args.cx.now.rows c.args.self c.env_clauses.result.now c.one_type.result c.one_type.ensures.one (rw c.env_clauses.ensures.are h)
