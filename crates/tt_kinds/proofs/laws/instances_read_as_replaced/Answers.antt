-- Instantiating, read, is replacing parameters in the reading.
use Rattle.tt_kinds.proofs.PutLaws.{read-inst_tree}
use Rattle.tt_kinds.proofs.laws.instances_read_as_replaced.Goals as goal

pub returns : goal.returns
returns c = read-inst_tree
