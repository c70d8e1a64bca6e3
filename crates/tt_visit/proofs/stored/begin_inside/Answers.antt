use Rattle.std.proofs.Common.{refl, arith}
use Rattle.tt_kinds.specs.Shape.{fill}
use Rattle.tt_visit.specs.Frames.{stored_age}
use Rattle.tt_visit.specs.Visit.{term_seen, term_inside_broke}
use Rattle.tt_visit.proofs.VisitSteps.{has-kind}
use Rattle.tt_visit.proofs.Weights.{low-kind}
use Rattle.tt_visit.proofs.BeginSteps.{begun-weaker, begins-list}
use Rattle.tt_visit.proofs.stored.begin_inside.Goals as goal

pub node_kind-kind-requires : goal.node_kind-kind-requires
node_kind-kind-requires g c = record { owned = c.requires.handle; has_kind = has-kind _ c.requires.term c.in_default.not-ClauseLists }

pub begin_kind-requires-clause-kind : goal.begin_kind-requires-clause-kind
begin_kind-requires-clause-kind g c = c.node_kind-kind.ensures.parts

pub returns-in-ClauseLists-clause-begun : goal.returns-in-ClauseLists-clause-begun
unfolding fill
returns-in-ClauseLists-clause-begun g c =
    let own = c.list_frame.ensures in
    begins-list own.frame own.binder own.low own.light (λ _ h. rw (own.list, c.in-ClauseLists.is) (term_seen refl h)) (λ b _ h. rw (own.list, c.in-ClauseLists.is) (term_inside_broke refl h))

pub returns-in_default-clause-begun : goal.returns-in_default-clause-begun
unfolding fill
returns-in_default-clause-begun g c =
    let own = c.node_kind-kind.ensures in
    let low = low-kind c.args.cx.now.rows (stored_age c.args.cx.now.rows c.args.handle) c.node_kind-kind.result own.older in
    begun-weaker _ _ _ c.begin_kind.result (rw (← own.means) at c.begin_kind.ensures.begun) (λ _ h. h) (λ b _ h. h) (omega arith) (omega arith)
