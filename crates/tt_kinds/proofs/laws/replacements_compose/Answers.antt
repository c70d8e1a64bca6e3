-- Where each parameter has an argument, replacing twice is replacing once, by arguments in which the second has
-- replaced.
use Rattle.tt_kinds.proofs.PutLaws.{put-put}
use Rattle.tt_kinds.proofs.laws.replacements_compose.Goals as goal

pub returns : goal.returns
returns c = put-put
