-- By the room of the arguments.
use Rattle.tt_kinds.proofs.FittingLaws.{instance-fits}
use Rattle.tt_kinds.proofs.fitting.instances_fit.Goals as goal

pub returns : goal.returns
returns c = instance-fits
