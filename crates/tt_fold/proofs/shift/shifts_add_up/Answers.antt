use Rattle.tt_fold.proofs.ShiftLaws.{add_up}
use Rattle.tt_fold.proofs.shift.shifts_add_up.Goals as goal

pub returns : goal.returns
returns c = add_up
