-- the visit of its assumptions in order
use Rattle.std.proofs.Common.{refl}
use Rattle.tt_kinds.specs.Shape.{fill, fill_all}
use Rattle.tt_kinds.specs.declared.table.Table.TheVariants.{AssumptionLists}
use Rattle.tt_interner.specs.Rows.{assumptions_row}
use Rattle.tt_interner.proofs.Trees.{Means-row}
use Rattle.tt_visit.specs.Visit.{node_seen, node_broke}
use Rattle.tt_visit.proofs.VisitSteps.{flow-weaker}
use Rattle.tt_visit.proofs.handles.RegionAssumptionsTypeVisitable.visit_with.Goals as goal

pub visit_values-requires-clause-values : goal.visit_values-requires-clause-values
visit_values-requires-clause-values g c = (Means-row _ c.are_rows.ensures.are AssumptionLists _ (assumptions_row c.as_slice.result.now) c.as_slice.ensures.row).parts.1

pub returns-clause-result : goal.returns-clause-result
unfolding fill fill_all
returns-clause-result g c =
    let is = (Means-row _ c.are_rows.ensures.are AssumptionLists _ (assumptions_row c.as_slice.result.now) c.as_slice.ensures.row).tree in
    flow-weaker c.visit_values.result c.visit_values.ensures.result (λ _ h. rw is (node_seen refl h)) (λ b h. rw is (node_broke refl h))
