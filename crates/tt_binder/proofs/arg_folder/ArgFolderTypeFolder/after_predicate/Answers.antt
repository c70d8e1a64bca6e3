use Rattle.tt_kinds.specs.Kinds.{predicate_shape}
use Rattle.tt_fold.specs.Steps.{tree_in}
use Rattle.tt_binder.proofs.RowArguments.{predicate_is}
use Rattle.tt_binder.proofs.HookLaws.{clause_unnoted}
use Rattle.tt_binder.proofs.arg_folder.ArgFolderTypeFolder.after_predicate.Goals as goal

pub returns-clause-result : goal.returns-clause-result
returns-clause-result g c = (
  c.requires.rebuilt,
  clause_unnoted _ (tree_in c.args._cx.now.rows (predicate_shape c.args._before)) (tree_in c.args._cx.now.rows (predicate_shape c.args.rebuilt)) (predicate_is c.args._cx.now.rows c.args._before c.requires.before),
)
