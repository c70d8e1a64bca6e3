use Rattle.std.proofs.Common.{refl}
use Rattle.tt_visit.specs.Visit.{node_seen, node_broke}
use Rattle.tt_visit.proofs.ViewSteps.{inputs_owned, inputs-tree}
use Rattle.tt_visit.proofs.VisitSteps.{flow-weaker}
use Rattle.tt_visit.proofs.views.FnInputTysTypeVisitable.visit_with.Goals as goal

pub visit_values-requires-clause-values : goal.visit_values-requires-clause-values
visit_values-requires-clause-values g c =
    rw c.all_but_last-inputs.ensures
    (inputs_owned c.args.cx.now.rows c.are_rows.ensures.are c.inputs_and_output.result c.as_slice.result.now c.as_slice.ensures.row _)

pub returns-clause-result : goal.returns-clause-result
returns-clause-result g c =
    let is = inputs-tree c.args.cx.now.rows c.are_rows.ensures.are c.args.self.now c.inputs_and_output.result c.as_slice.result.now c.all_but_last-inputs.result.now
    c.inputs_and_output.ensures c.as_slice.ensures.row c.all_but_last-inputs.ensures in
    flow-weaker c.visit_values.result c.visit_values.ensures.result (λ _ h. rw is (node_seen refl h)) (λ b h. rw is (node_broke refl h))
