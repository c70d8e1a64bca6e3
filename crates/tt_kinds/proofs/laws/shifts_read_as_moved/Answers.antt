-- Shifting, read, is moving the reading.
use Rattle.tt_kinds.proofs.ReadingLaws.{read-shift_tree}
use Rattle.tt_kinds.proofs.laws.shifts_read_as_moved.Goals as goal

pub returns : goal.returns
returns c = read-shift_tree
