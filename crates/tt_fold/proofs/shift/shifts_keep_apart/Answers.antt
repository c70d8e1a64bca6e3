use Rattle.tt_fold.proofs.ShiftLaws.{keep_apart}
use Rattle.tt_fold.proofs.shift.shifts_keep_apart.Goals as goal

pub returns : goal.returns
returns c = keep_apart
