use Rattle.tt_fold.specs.Steps.{tree_by, IsPartBy, errors_of}
use Rattle.tt_fold.proofs.TypesOnceLaws.{stays}
use Rattle.tt_fold.proofs.TypesOnceSteps.{plain}
use Rattle.tt_fold.proofs.types_once.replace_types_once.Goals as goal

pub returns-clause-plain : goal.returns-clause-plain
returns-clause-plain g c = (plain (tree_by g.F.TypeReplacer.shape) g.F.TypeReplacer.hooks (stays g.F.TypeReplacer.shape g.F.TypeReplacer.hooks c.requires.steady) (errors_of g.F.Error.From.from_gives c.fold_core.new.cx) c.args.cx.now.rows c.args.folder c.new.result c.args.cx.now.counters c.new.ensures
    (IsPartBy g.T.TypeVisitable.shape c.fold_core.new.cx.rows) (tree_by g.T.TypeVisitable.shape c.args.cx.now.rows c.args.value) (tree_by g.T.TypeVisitable.shape c.fold_core.new.cx.rows) c.fold_core.result _ c.fold_core.ensures.folds.outcome).ok

pub returns-clause-err : goal.returns-clause-err
returns-clause-err g c = (plain (tree_by g.F.TypeReplacer.shape) g.F.TypeReplacer.hooks (stays g.F.TypeReplacer.shape g.F.TypeReplacer.hooks c.requires.steady) (errors_of g.F.Error.From.from_gives c.fold_core.new.cx) c.args.cx.now.rows c.args.folder c.new.result c.args.cx.now.counters c.new.ensures
    (IsPartBy g.T.TypeVisitable.shape c.fold_core.new.cx.rows) (tree_by g.T.TypeVisitable.shape c.args.cx.now.rows c.args.value) (tree_by g.T.TypeVisitable.shape c.fold_core.new.cx.rows) c.fold_core.result _ c.fold_core.ensures.folds.outcome).err

pub returns-clause-once : goal.returns-clause-once
returns-clause-once g c = (plain (tree_by g.F.TypeReplacer.shape) g.F.TypeReplacer.hooks (stays g.F.TypeReplacer.shape g.F.TypeReplacer.hooks c.requires.steady) (errors_of g.F.Error.From.from_gives c.fold_core.new.cx) c.args.cx.now.rows c.args.folder c.new.result c.args.cx.now.counters c.new.ensures
    (IsPartBy g.T.TypeVisitable.shape c.fold_core.new.cx.rows) (tree_by g.T.TypeVisitable.shape c.args.cx.now.rows c.args.value) (tree_by g.T.TypeVisitable.shape c.fold_core.new.cx.rows) c.fold_core.result _ c.fold_core.ensures.folds.outcome).ok_once

pub returns-clause-once_until : goal.returns-clause-once_until
returns-clause-once_until g c = (plain (tree_by g.F.TypeReplacer.shape) g.F.TypeReplacer.hooks (stays g.F.TypeReplacer.shape g.F.TypeReplacer.hooks c.requires.steady) (errors_of g.F.Error.From.from_gives c.fold_core.new.cx) c.args.cx.now.rows c.args.folder c.new.result c.args.cx.now.counters c.new.ensures
    (IsPartBy g.T.TypeVisitable.shape c.fold_core.new.cx.rows) (tree_by g.T.TypeVisitable.shape c.args.cx.now.rows c.args.value) (tree_by g.T.TypeVisitable.shape c.fold_core.new.cx.rows) c.fold_core.result _ c.fold_core.ensures.folds.outcome).err_once
