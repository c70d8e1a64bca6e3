use Rattle.tt_kinds.specs.Shape.{fill}
use Rattle.tt_calls.proofs.answers.queries.info.Goals as goal

pub flags-requires : goal.flags-requires
flags-requires g c = rw (g.met.T.TermHandle.is_flagged c.args.term) c.requires

pub outer_exclusive_binder-requires : goal.outer_exclusive_binder-requires
outer_exclusive_binder-requires g c = rw (g.met.T.TermHandle.is_flagged c.args.term) c.requires

pub returns : goal.returns
unfolding fill
returns g c = (rw (g.met.T.TermHandle.is_flagged c.args.term) at c.flags.ensures, rw (g.met.T.TermHandle.is_flagged c.args.term) at c.outer_exclusive_binder.ensures)
