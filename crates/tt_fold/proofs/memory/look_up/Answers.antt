use Rattle.tt_fold.proofs.MemoryLaws.{remembered_or_not}
use Rattle.tt_fold.proofs.memory.look_up.Goals as goal

pub returns-clause-trees : goal.returns-clause-trees
returns-clause-trees c = remembered_or_not c.args.cx.now.rows c.args.memory.now c.args.ty c.args.under c.recall.result c.are_interned.ensures c.requires.ty c.requires.memory c.recall.ensures
