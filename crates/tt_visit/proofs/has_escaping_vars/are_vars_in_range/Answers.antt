use Rattle.tt_kinds.specs.Shape.{fill}
use Rattle.tt_interner.specs.Rows.{meaning}
use Rattle.tt_visit.proofs.HasEscapingVarsLaws.{goes-range, breaks-range, range-outer}
use Rattle.tt_visit.proofs.has_escaping_vars.are_vars_in_range.Goals as goal

pub returns-in-Break-clause-holds : goal.returns-in-Break-clause-holds
returns-in-Break-clause-holds g c = absurd (breaks-range _ _ _ _ c.in-Break.ensures.result)

pub returns-in-Break-clause-each : goal.returns-in-Break-clause-each
returns-in-Break-clause-each g c = absurd (breaks-range _ _ _ _ c.in-Break.ensures.result)

pub returns-in-Break-clause-whole : goal.returns-in-Break-clause-whole
returns-in-Break-clause-whole g c = absurd (breaks-range _ _ _ _ c.in-Break.ensures.result)

pub returns-in-Continue-clause-each : goal.returns-in-Continue-clause-each
returns-in-Continue-clause-each g c = goes-range _ _ _ c.in-Continue.ensures.result

pub returns-in-Continue-clause-whole : goal.returns-in-Continue-clause-whole
returns-in-Continue-clause-whole g c = range-outer (fill (meaning c.args.cx.now.rows) (g.T.TypeVisitable.shape c.args.value.now)) (goes-range _ _ _ c.in-Continue.ensures.result)
