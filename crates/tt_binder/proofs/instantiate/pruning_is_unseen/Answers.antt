use Rattle.tt_binder.proofs.UnprunedReasons.{pruning_unseen}
use Rattle.tt_binder.proofs.instantiate.pruning_is_unseen.Goals as goal

pub returns : goal.returns
returns c = pruning_unseen
