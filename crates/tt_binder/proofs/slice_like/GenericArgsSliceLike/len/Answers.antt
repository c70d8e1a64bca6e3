use Rattle.tt_binder.proofs.RowArguments.{are_arguments_at}
use Rattle.tt_binder.proofs.slice_like.GenericArgsSliceLike.len.Goals as goal

pub returns-clause-are : goal.returns-clause-are
returns-clause-are c = are_arguments_at c.args.cx.now.rows c.args.self c.are_rows.ensures.are
