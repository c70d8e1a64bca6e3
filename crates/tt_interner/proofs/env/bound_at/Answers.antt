-- by the clause's row
use Rattle.tt_interner.proofs.EnvSteps.{bound_in_range}
use Rattle.tt_interner.proofs.env.bound_at.Goals as goal

pub returns-clause-in_range : goal.returns-clause-in_range
returns-clause-in_range c = rw (c.bound_of.ensures, c.skip_binder.ensures, c.as_ref.ensures.value) (bound_in_range c.args.cx.now.rows c.are_rows.ensures.are c.kind.result.now _ c.kind.ensures.row)
