use Rattle.tt_visit.proofs.ViewSteps.{inputs_held, inputs_owned}
use Rattle.tt_visit.proofs.views.FnInputTysInternedView.as_slice.Goals as goal

pub returns-clause-items : goal.returns-clause-items
returns-clause-items c =
    rw c.all_but_last.ensures
    (inputs_held c.args.cx.now.rows c.args.self c.inputs_and_output.result c.as_slice-all.result.now c.inputs_and_output.ensures c.requires c.as_slice-all.ensures.row)

pub returns-clause-owned : goal.returns-clause-owned
returns-clause-owned c =
    rw c.all_but_last.ensures
    (inputs_owned c.args.cx.now.rows c.are_rows.ensures.are c.inputs_and_output.result c.as_slice-all.result.now c.as_slice-all.ensures.row _)
