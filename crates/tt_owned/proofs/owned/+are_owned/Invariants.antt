use Rattle.std.proofs.Common.{length}
use Rattle.tt_owned.proofs.owned.+are_owned.Given as goal

abbrev pub decreases-are_owned : goal.decreases-are_owned
decreases-are_owned g l = length l.values.now
