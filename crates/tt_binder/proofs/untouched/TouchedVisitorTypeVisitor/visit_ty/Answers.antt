use Rattle.tt_kinds.specs.Kinds.{ty_shape}
use Rattle.tt_fold.specs.Steps.{tree_in}
use Rattle.tt_binder.specs.Untouched.{passed_by}
use Rattle.tt_binder.proofs.RowArguments.{type_is, type_kept}
use Rattle.tt_binder.proofs.FlagLaws.{meets_param, misses_param}
use Rattle.tt_binder.proofs.untouched.TouchedVisitorTypeVisitor.visit_ty.Goals as goal

pub returns-then-intersects-clause-result : goal.returns-then-intersects-clause-result
returns-then-intersects-clause-result c = meets_param (tree_in c.args.cx.now.rows (ty_shape c.args.ty)) c.flags.result.bits c.flags.ensures (c.intersects.ensures.0 c.if-intersects.true)

pub returns-else-intersects-clause-result : goal.returns-else-intersects-clause-result
returns-else-intersects-clause-result c =
    let tree = tree_in c.args.cx.now.rows (ty_shape c.args.ty) in
    passed_by (type_kept tree (type_is c.args.cx.now.rows c.args.ty c.requires.ty))
    (misses_param tree c.flags.result.bits c.intersects.result c.flags.ensures c.if-intersects.false c.intersects.ensures.1)
