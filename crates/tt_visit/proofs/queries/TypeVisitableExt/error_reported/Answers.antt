use Rattle.tt_kinds.specs.Shape.{fill}
use Rattle.tt_interner.specs.Rows.{meaning}
use Rattle.tt_visit.proofs.HasErrorLaws.{errorless, token-meets, goes-tokenless, breaks-first}
use Rattle.tt_visit.proofs.queries.TypeVisitableExt.error_reported.Goals as goal

pub returns-in-Break-clause-err : goal.returns-in-Break-clause-err
returns-in-Break-clause-err g c =
    token-meets (fill (meaning c.args.cx.now.rows) (g.Self.TypeVisitable.shape c.args.self.now)) _ (breaks-first _ _ _ _ c.in-Break.ensures.result)

pub returns-in-Break-clause-first : goal.returns-in-Break-clause-first
returns-in-Break-clause-first g c = breaks-first _ _ _ _ c.in-Break.ensures.result

pub returns-in-Continue-clause-ok : goal.returns-in-Continue-clause-ok
returns-in-Continue-clause-ok g c =
    errorless (fill (meaning c.args.cx.now.rows) (g.Self.TypeVisitable.shape c.args.self.now)) (goes-tokenless _ _ _ c.in-Continue.ensures.result)

pub returns-in-Continue-clause-none : goal.returns-in-Continue-clause-none
returns-in-Continue-clause-none g c = goes-tokenless _ _ _ c.in-Continue.ensures.result
