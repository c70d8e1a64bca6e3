use Rattle.std.specs.Vec.Iter.{into_iter_items, into_iter_len}
use Rattle.tt_fold.specs.Parts.{FoldsValues}
use Rattle.tt_fold.proofs.containers.VecTypeFoldable.fold_core.Given as goal

abbrev pub invariant-loop-value : goal.invariant-loop-value
invariant-loop-value g l =
    FoldsValues g.T.TypeVisitable.shape g.F.Core.owned g.F.Core.meaning g.F.Core.hooks
    l.initial.cx l.initial.folder l.fn.self.items l.values.items (into_iter_items l.rest) l.cx l.folder

abbrev pub decreases-loop-value : goal.decreases-loop-value
decreases-loop-value g l = into_iter_len l.rest
