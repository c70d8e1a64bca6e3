use Rattle.std.proofs.Common.{refl}
use Rattle.tt_visit.specs.Visit.{node_seen, node_broke}
use Rattle.tt_visit.proofs.ViewSteps.{args_owned, args-tree}
use Rattle.tt_visit.proofs.VisitSteps.{flow-weaker}
use Rattle.tt_visit.proofs.views.GenericArgsSliceTypeVisitable.visit_with.Goals as goal

pub visit_values-requires-clause-values : goal.visit_values-requires-clause-values
visit_values-requires-clause-values g c =
    rw c.span-arguments.ensures
    (args_owned c.args.cx.now.rows c.are_rows.ensures.are c.args-2.result c.as_slice-list.result.now c.as_slice-list.ensures.row _ c.start.result)

pub returns-clause-result : goal.returns-clause-result
returns-clause-result g c =
    let is = args-tree c.args.cx.now.rows c.are_rows.ensures.are c.args.self.now c.args-2.result c.as_slice-list.result.now c.span-arguments.result.now
    c.args-2.ensures c.as_slice-list.ensures.row (rw (← c.start.ensures, ← c.count.ensures) c.span-arguments.ensures) in
    flow-weaker c.visit_values.result c.visit_values.ensures.result (λ _ h. rw is (node_seen refl h)) (λ b h. rw is (node_broke refl h))
