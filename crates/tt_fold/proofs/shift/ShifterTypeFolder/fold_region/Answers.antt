use Rattle.tt_fold.specs.Shift.{shift_state}
use Rattle.tt_fold.proofs.ShiftLaws.{region_hook}
use Rattle.tt_fold.proofs.shift.ShifterTypeFolder.fold_region.Goals as goal
use Rattle.tt_fold.specs.TypesOnce.{with_counters}

pub returns-clause-result : goal.returns-clause-result
returns-clause-result c =
    region_hook c.args._cx.now.rows (with_counters (shift_state c.args.self.now.amount c.args.self.now.current_index c.args._cx.now.rows c.args.self.now.memory) c.args._cx.now.counters) c.args.region _
    c.shift_region_under.ensures.region c.requires.region c.shift_region_under.ensures.result
