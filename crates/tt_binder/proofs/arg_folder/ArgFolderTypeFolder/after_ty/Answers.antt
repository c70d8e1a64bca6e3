use Rattle.std.proofs.Common.{◌++◌}
use Rattle.std.specs.Map.{keys_of}
use Rattle.tt_fold.proofs.MemoryLaws.{note_owned, type_noted}
use Rattle.tt_interner.specs.Arguments.{arguments}
use Rattle.tt_binder.specs.Instantiation.{instantiation}
use Rattle.tt_binder.proofs.arg_folder.ArgFolderTypeFolder.after_ty.Goals as goal

pub returns-clause-owned : goal.returns-clause-owned
returns-clause-owned g c =
    let owned = c.requires.owned in
    let noted = note_owned c.args._cx.now.rows c.args.before c.args.self.now.binders_passed c.args.rebuilt c.args.self.now.memory c.requires.before c.requires.rebuilt owned.3 in
    (owned.0, owned.1, owned.2, rw c.in_ok-note.ensures.ok noted, owned.4, owned.5)

pub returns-clause-result : goal.returns-clause-result
returns-clause-result g c = (
  c.requires.rebuilt,
  type_noted instantiation c.args._cx.now.rows (arguments c.args._cx.now.rows (g.S.SliceLike.items c.args._cx.now.rows c.args.self.now.args)) c.args.self.now.binders_passed (keys_of c.args.self.now.types ++ keys_of c.args.self.now.consts)
      c.args._cx.now.counters c.args.self.now.memory c.note.new.self c.args.before c.args.rebuilt c.requires.before c.in_ok-note.ensures.ok,
)
