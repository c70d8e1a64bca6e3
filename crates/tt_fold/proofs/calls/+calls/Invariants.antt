use Rattle.std.proofs.Common.{◌+◌, ◌-◌, ◌*◌}
use Rattle.tt_fold.specs.Calls.{FoldsTypes}
use Rattle.tt_fold.proofs.calls.+calls.Given as goal

abbrev pub decreases-fold_within : goal.decreases-fold_within
decreases-fold_within g l = 8 * l.levels + 5

abbrev pub decreases-fold_stored_within : goal.decreases-fold_stored_within
decreases-fold_stored_within g l = 8 * l.levels + 4

abbrev pub decreases-fold_ty : goal.decreases-fold_ty
decreases-fold_ty g l = 8 * l.levels + 2

abbrev pub decreases-descend : goal.decreases-descend
decreases-descend g l = 8 * l.levels + 1

abbrev pub decreases-fold_contents_of : goal.decreases-fold_contents_of
decreases-fold_contents_of g l = 8 * l.levels

abbrev pub decreases-fold_tys : goal.decreases-fold_tys
decreases-fold_tys g l = 8 * l.levels + 3

abbrev pub invariant-fold_tys-loop-next : goal.invariant-fold_tys-loop-next
invariant-fold_tys-loop-next g l =
    FoldsTypes g.F.Core.owned g.F.Core.meaning g.F.Core.hooks
    l.initial.cx l.initial.folder l.tys l.count l.next l.types.items l.cx l.folder

abbrev pub decreases-fold_tys-loop-next : goal.decreases-fold_tys-loop-next
decreases-fold_tys-loop-next g l = l.count - l.next
