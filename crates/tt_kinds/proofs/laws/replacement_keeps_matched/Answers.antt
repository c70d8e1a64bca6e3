-- Variables that match their binders' lists still do after parameters are replaced by arguments whose variables do.
use Rattle.tt_kinds.proofs.MatchedLaws.{MatchedUnder-put}
use Rattle.tt_kinds.proofs.laws.replacement_keeps_matched.Goals as goal

pub returns : goal.returns
returns c = MatchedUnder-put
