-- by the list's row
use Rattle.std.proofs.Common.{sym, ap}
use Rattle.tt_interner.specs.Env.{clauses_of}
use Rattle.tt_interner.proofs.EnvSteps.{env_clauses_at, stored_clauses}
use Rattle.tt_interner.proofs.env.env_clauses.Goals as goal

pub returns-clause-are : goal.returns-clause-are
returns-clause-are c = sym (ap clauses_of (env_clauses_at c.args.cx.now.rows c.as_slice.result.now c.args.env c.as_slice.ensures.row))

pub returns-clause-in_range : goal.returns-clause-in_range
returns-clause-in_range c = stored_clauses c.args.cx.now.rows c.are_rows.ensures.are c.as_slice.result.now _ c.as_slice.ensures.row
