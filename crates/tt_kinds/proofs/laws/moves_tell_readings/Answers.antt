-- Equal moves come from equal readings.
use Rattle.tt_kinds.proofs.ReadingLaws.{move-injective}
use Rattle.tt_kinds.proofs.laws.moves_tell_readings.Goals as goal

pub returns : goal.returns
returns c = move-injective
