-- Replacing and then moving is moving and then replacing by moved arguments.
use Rattle.tt_kinds.proofs.PutLaws.{move-put}
use Rattle.tt_kinds.proofs.laws.moves_commute_with_replacement.Goals as goal

pub returns : goal.returns
returns c = move-put
