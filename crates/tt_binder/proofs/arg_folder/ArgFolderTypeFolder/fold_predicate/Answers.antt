use Rattle.tt_kinds.specs.Kinds.{predicate_shape}
use Rattle.tt_fold.specs.Steps.{tree_in}
use Rattle.tt_binder.proofs.RowArguments.{predicate_is, clause_kept}
use Rattle.tt_binder.proofs.FlagLaws.{meets_param, misses_param}
use Rattle.tt_binder.proofs.HookLaws.{gone_step, left_step}
use Rattle.tt_binder.proofs.arg_folder.ArgFolderTypeFolder.fold_predicate.Goals as goal

pub returns-then-intersects-clause-result : goal.returns-then-intersects-clause-result
returns-then-intersects-clause-result g c =
    let tree = tree_in c.args.cx.now.rows (predicate_shape c.args.predicate) in
    let held = meets_param tree c.flags.result.bits c.flags.ensures (c.intersects.ensures.0 c.if-intersects.true) in
    (tt, gone_step _ tree (predicate_is c.args.cx.now.rows c.args.predicate c.requires.predicate) held)

pub returns-else-intersects-clause-result : goal.returns-else-intersects-clause-result
returns-else-intersects-clause-result g c =
    let tree = tree_in c.args.cx.now.rows (predicate_shape c.args.predicate) in
    let none = misses_param tree c.flags.result.bits c.intersects.result c.flags.ensures c.if-intersects.false c.intersects.ensures.1 in
    (tt, left_step _ tree (clause_kept tree (predicate_is c.args.cx.now.rows c.args.predicate c.requires.predicate)) none)
