use Rattle.tt_kinds.specs.Kinds.{const_shape}
use Rattle.tt_fold.specs.Steps.{tree_in}
use Rattle.tt_binder.proofs.RowArguments.{const_is}
use Rattle.tt_binder.proofs.HookLaws.{const_unnoted}
use Rattle.tt_binder.proofs.arg_folder.ArgFolderTypeFolder.after_const.Goals as goal

pub returns-clause-result : goal.returns-clause-result
returns-clause-result g c = (
  c.requires.rebuilt,
  const_unnoted _ (tree_in c.args._cx.now.rows (const_shape c.args._before)) (tree_in c.args._cx.now.rows (const_shape c.args.rebuilt)) (const_is c.args._cx.now.rows c.args._before c.requires.before),
)
