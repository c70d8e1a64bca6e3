use Rattle.std.proofs.Common.{◌≡◌, [], take}
use Rattle.indexmap.specs.IndexMap.{insert_all}
use Rattle.tt_fold.specs.Memory.{same_place}
use Rattle.tt_fold.specs.Notes.{note_entries}
use Rattle.tt_fold.proofs.memory.map_of.Given as goal

abbrev pub invariant-loop-note : goal.invariant-loop-note
invariant-loop-note l = l.entries.entries ≡ insert_all same_place [] (note_entries (take l.note-index l.notes))
