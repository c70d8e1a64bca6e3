-- Moves in turn are one move by the sum.
use Rattle.tt_kinds.proofs.ReadingLaws.{move-move}
use Rattle.tt_kinds.proofs.laws.moves_add_up.Goals as goal

pub returns : goal.returns
returns c = move-move
