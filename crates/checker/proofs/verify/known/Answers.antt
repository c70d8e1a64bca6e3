use Rattle.tt_kinds.specs.Kinds.{ty_shape}
use Rattle.tt_fold.specs.Steps.{tree_in}
use Rattle.checker.proofs.ArgumentLaws.{unflagged_known}
use Rattle.checker.proofs.verify.known.Goals as goal

pub returns-else-has_infer : goal.returns-else-has_infer
returns-else-has_infer c =
    unflagged_known (tree_in c.args.cx.now.rows (ty_shape c.args.ty)) _ c.has_infer.ensures c.if-has_infer.false
