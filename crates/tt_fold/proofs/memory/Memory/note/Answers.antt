use Rattle.std.proofs.Common.{sym, ◌∙◌}
use Rattle.std.specs.List.{IsDistinct}
use Rattle.std.specs.Map.{keys_of}
use Rattle.tt_fold.proofs.NoteLaws.{distinct_noted, noted_last, written_again}
use Rattle.tt_fold.specs.Memory.{place_of, same_place}
use Rattle.tt_fold.specs.Notes.{note_entries}
use Rattle.tt_fold.proofs.memory.Memory.note.Goals as goal

pub invariant_of-self : goal.invariant_of-self
invariant_of-self c =
    let at = rw c.as_slice.ensures at (sym c.position_of.ensures ∙ c.in-Some.is) in
    let are : IsDistinct same_place (keys_of (note_entries c.in-Few.few.items)) = rw c.in-Few.is at c.self.invariant in
    rw (written_again c.in-Few.few.items c.deref_mut.result.now (place_of c.args.before c.args.under) c.in-Some.i _ c.args.after c.deref_mut.ensures.value at)
    (distinct_noted (note_entries c.in-Few.few.items) (place_of c.args.before c.args.under) c.args.after are)

pub invariant_of-self-then-len-capacity : goal.invariant_of-self-then-len-capacity
invariant_of-self-then-len-capacity c =
    let at = rw c.as_slice.ensures at (sym c.position_of.ensures ∙ c.in-None.is) in
    let are : IsDistinct same_place (keys_of (note_entries c.in-Few.few.items)) = rw c.in-Few.is at c.self.invariant in
    rw (c.push_reserved.ensures.items, noted_last c.in-Few.few.items (place_of c.args.before c.args.under) c.args.after at)
    (distinct_noted (note_entries c.in-Few.few.items) (place_of c.args.before c.args.under) c.args.after are)

pub returns-in-Some-clause-ok : goal.returns-in-Some-clause-ok
returns-in-Some-clause-ok c =
    let at = rw c.as_slice.ensures at (sym c.position_of.ensures ∙ c.in-Some.is) in
    rw (← c.self.view_is, c.in-Few.is)
    (written_again c.in-Few.few.items c.deref_mut.result.now (place_of c.args.before c.args.under) c.in-Some.i _ c.args.after c.deref_mut.ensures.value at)

pub returns-in-None-clause-ok : goal.returns-in-None-clause-ok
returns-in-None-clause-ok c =
    let at = rw c.as_slice.ensures at (sym c.position_of.ensures ∙ c.in-None.is) in
    rw (← c.self.view_is, c.in-Few.is, c.push_reserved.ensures.items)
    (noted_last c.in-Few.few.items (place_of c.args.before c.args.under) c.args.after at)
