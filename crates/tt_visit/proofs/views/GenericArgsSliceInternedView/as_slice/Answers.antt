use Rattle.tt_visit.proofs.ViewSteps.{args_held, args_owned}
use Rattle.tt_visit.proofs.views.GenericArgsSliceInternedView.as_slice.Goals as goal

pub returns-clause-items : goal.returns-clause-items
returns-clause-items c =
    rw (c.span.ensures, c.start.ensures, c.count.ensures)
    (args_held c.args.cx.now.rows c.args.self c.args-2.result c.as_slice-all.result.now c.args-2.ensures c.requires c.as_slice-all.ensures.row)

pub returns-clause-owned : goal.returns-clause-owned
returns-clause-owned c =
    rw c.span.ensures
    (args_owned c.args.cx.now.rows c.are_rows.ensures.are c.args-2.result c.as_slice-all.result.now c.as_slice-all.ensures.row _ c.start.result)
