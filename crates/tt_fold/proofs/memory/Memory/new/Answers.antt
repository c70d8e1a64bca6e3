use Rattle.tt_fold.proofs.NoteLaws.{none_distinct}
use Rattle.tt_fold.proofs.memory.Memory.new.Goals as goal

pub invariant_of-result : goal.invariant_of-result
invariant_of-result c = rw c.new.ensures.items none_distinct
