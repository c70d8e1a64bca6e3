use Rattle.tt_fold.specs.Shift.{shifting}
use Rattle.tt_fold.proofs.MemoryLaws.{note_owned, type_noted}
use Rattle.tt_fold.proofs.shift.ShifterTypeFolder.after_ty.Goals as goal

pub returns-clause-owned : goal.returns-clause-owned
returns-clause-owned c =
    rw c.in_ok-note.ensures.ok (note_owned c.args._cx.now.rows c.args.before c.as_u32.result c.args.rebuilt c.args.self.now.memory c.requires.before c.requires.rebuilt c.requires.owned)

pub returns-clause-result : goal.returns-clause-result
returns-clause-result c = (
  c.requires.rebuilt,
  type_noted shifting c.args._cx.now.rows c.args.self.now.amount c.args.self.now.current_index tt c.args._cx.now.counters c.args.self.now.memory c.note.new.self c.args.before c.args.rebuilt
      c.requires.before (rw c.as_u32.ensures.number at c.in_ok-note.ensures.ok),
)
