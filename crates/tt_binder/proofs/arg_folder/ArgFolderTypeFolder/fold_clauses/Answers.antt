use Rattle.tt_kinds.specs.Kinds.{clauses_shape}
use Rattle.tt_fold.specs.Steps.{tree_in}
use Rattle.tt_binder.proofs.RowArguments.{clauses_is, clause_kept}
use Rattle.tt_binder.proofs.FlagLaws.{meets_param, misses_param}
use Rattle.tt_binder.proofs.HookLaws.{gone_step, left_step}
use Rattle.tt_binder.proofs.arg_folder.ArgFolderTypeFolder.fold_clauses.Goals as goal

pub returns-then-intersects-clause-result : goal.returns-then-intersects-clause-result
returns-then-intersects-clause-result g c =
    let tree = tree_in c.args.cx.now.rows (clauses_shape c.args.clauses) in
    let held = meets_param tree c.flags.result.bits c.flags.ensures (c.intersects.ensures.0 c.if-intersects.true) in
    (tt, gone_step _ tree (clauses_is c.args.cx.now.rows c.args.clauses c.requires.clauses) held)

pub returns-else-intersects-clause-result : goal.returns-else-intersects-clause-result
returns-else-intersects-clause-result g c =
    let tree = tree_in c.args.cx.now.rows (clauses_shape c.args.clauses) in
    let none = misses_param tree c.flags.result.bits c.intersects.result c.flags.ensures c.if-intersects.false c.intersects.ensures.1 in
    (tt, left_step _ tree (clause_kept tree (clauses_is c.args.cx.now.rows c.args.clauses c.requires.clauses)) none)
