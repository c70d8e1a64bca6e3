use Rattle.std.proofs.Common.{◌≡◌, length, arith}
use Rattle.std.proofs.lemmas.List.{length-map}
use Rattle.std.specs.List.{IsDistinct}
use Rattle.std.specs.Map.{keys_of}
use Rattle.tt_fold.proofs.NoteLaws.{as_many_in_map, noted_in_map}
use Rattle.tt_fold.specs.Memory.{same_place}
use Rattle.tt_fold.specs.Notes.{note_entries}
use Rattle.tt_fold.proofs.memory.note_in_map.Goals as goal

pub returns-in_ok-insert-in-Few-clause-notes : goal.returns-in_ok-insert-in-Few-clause-notes
returns-in_ok-insert-in-Few-clause-notes c =
    let few = c.in-Few.few.items in
    let are : IsDistinct same_place (keys_of (note_entries few)) = rw c.in-Few.is at c.requires.notes in
    let put = rw c.as_slice.ensures at c.in_ok-many-in-Few.ensures.ok in
    let rise = as_many_in_map few c.args.place c.args.after _ _ are put c.in_ok-insert-in-Few.ensures.entries in
    let full = rw c.in-Few.is at c.requires.full in
    let many : length (note_entries few) ≡ length few = length-map few (λ n. (n.place, n.after)) in
    omega (arith, rise, full, many)

pub returns-in_ok-insert-in-Few-clause-ok : goal.returns-in_ok-insert-in-Few-clause-ok
returns-in_ok-insert-in-Few-clause-ok c =
    let few = c.in-Few.few.items in
    let are : IsDistinct same_place (keys_of (note_entries few)) = rw c.in-Few.is at c.requires.notes in
    let put = rw c.as_slice.ensures at c.in_ok-many-in-Few.ensures.ok in
    rw c.in-Few.is (noted_in_map few c.args.place c.args.after _ _ are put c.in_ok-insert-in-Few.ensures.entries)
