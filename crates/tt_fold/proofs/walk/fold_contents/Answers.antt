use Rattle.tt_fold.proofs.FoldSteps.{open_contents}
use Rattle.tt_fold.proofs.walk.fold_contents.Goals as goal

pub returns-in-None : goal.returns-in-None
returns-in-None g c = open_contents c.in-None.is c.fold_parts.ensures

pub fold_under-requires-clause-vars : goal.fold_under-requires-clause-vars
fold_under-requires-clause-vars g c = rw c.in-Some.is at c.requires.binder
