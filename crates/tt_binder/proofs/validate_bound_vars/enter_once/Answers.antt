use Rattle.std.proofs.Common.{inr, refl}
use Rattle.indexmap.specs.IndexMap.{insert_entry}
use Rattle.tt_fold.specs.Memory.{OwnsMemos, memos, place_of, same_place, type_at}
use Rattle.tt_fold.specs.Remember.{places}
use Rattle.tt_fold.proofs.MemoryLaws.{note_owned}
use Rattle.tt_binder.specs.Validate.{AddsPlace}
use Rattle.tt_binder.proofs.ValidateLaws.{found_place, note_kept, noted_place}
use Rattle.tt_binder.proofs.validate_bound_vars.enter_once.Goals as goal

pub returns-in-Some-clause-next : goal.returns-in-Some-clause-next
returns-in-Some-clause-next c = (found_place c.args.cx.now.rows c.args.visited.now c.args.ty c.args.under c.in-Some.field-0 c.in-Some.ensures.trees.1, refl)

pub returns-in-None-clause-owned : goal.returns-in-None-clause-owned
returns-in-None-clause-owned c =
    let rows = c.args.cx.now.rows in
    let old = c.args.visited.now in
    note_kept (OwnsMemos rows) c.note-noted.result c.note-noted.new.self (insert_entry same_place old (place_of c.args.ty c.args.under) c.args.ty) old c.note-noted.ensures.ok c.note-noted.ensures.stays
    (note_owned rows c.args.ty c.args.under c.args.ty old c.requires.ty c.requires.ty c.requires.visited) c.requires.visited

pub returns-in-None-clause-next : goal.returns-in-None-clause-next
returns-in-None-clause-next c =
    let rows = c.args.cx.now.rows in
    let old = c.args.visited.now in
    note_kept (λ es. AddsPlace (type_at rows c.args.ty c.args.under) (places (memos rows old)) (places (memos rows es))) c.note-noted.result c.note-noted.new.self (insert_entry same_place old (place_of c.args.ty c.args.under) c.args.ty) old
    c.note-noted.ensures.ok c.note-noted.ensures.stays (noted_place rows old c.args.ty c.args.under c.args.ty) (λ q m. inr m)
