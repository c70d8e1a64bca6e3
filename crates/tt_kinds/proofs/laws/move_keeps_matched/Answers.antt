-- Variables that match their binders' lists still do after a move.
use Rattle.tt_kinds.proofs.MatchedLaws.{MatchedUnder-move}
use Rattle.tt_kinds.proofs.laws.move_keeps_matched.Goals as goal

pub returns : goal.returns
returns c = MatchedUnder-move
