-- A reading belongs to one tree.
use Rattle.tt_kinds.proofs.ReadingLaws.{read-injective}
use Rattle.tt_kinds.proofs.laws.readings_tell_trees.Goals as goal

pub returns : goal.returns
returns c = read-injective
