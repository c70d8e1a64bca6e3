use Rattle.tt_fold.specs.Going.{Going, total_work}
use Rattle.tt_fold.proofs.stack.fold_frames.Given as goal

abbrev pub invariant-walk : goal.invariant-walk
invariant-walk g l =
    Going g.F.Core.owned g.F.Core.meaning g.F.Core.hooks g.F.Error.From.from_gives
    l.initial.cx l.initial.folder l.fn.first l.cx l.folder l.frame l.frames.items l.values.items

abbrev pub decreases-walk : goal.decreases-walk
decreases-walk g l = total_work l.cx.rows l.frame l.frames.items
