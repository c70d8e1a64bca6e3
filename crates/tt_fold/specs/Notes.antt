-- How a folder's memory keeps its notes: in place, or in a map.
use Rattle.std.specs.Prelude.{◌≤◌, List, map, length}
use Rattle.std.specs.List.{IsDistinct}
use Rattle.std.specs.Map.{keys_of}
use Rattle.tt_fold.specs.Memory.{same_place}
use Rattle.tt_kinds.specs.Handle.{Ty}
use Rattle.tt_fold.specs.declared.memory.Place.{Place}
use Rattle.tt_fold.specs.declared.memory.Note.{Note}
use Rattle.tt_fold.specs.declared.memory.Notes.{Notes}
use Rattle.tt_fold.specs.declared.memory.Notes.TheVariants.{Few, Many}

-- a list of notes, seen as the entries of a map
abbrev pub note_entries : List Note → List (Place × Ty)
note_entries notes = map (λ n. (n.place, n.after)) notes

-- the notes, wherever they are kept
abbrev pub noted_entries : Notes → List (Place × Ty)
noted_entries (Few few) = note_entries few.items
noted_entries (Many many) = many.entries

-- notes kept in place have distinct places, and a map has at least eight entries
abbrev pub AreNotes : Notes → Type 0
AreNotes (Few few) = IsDistinct same_place (keys_of (note_entries few.items))
AreNotes (Many many) = 8 ≤ length many.entries
