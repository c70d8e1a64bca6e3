use Rattle.std.proofs.Common.{refl, take, length, arith}
use Rattle.tt_kinds.specs.Kinds.{pat_shape, pats_shape}
use Rattle.tt_kinds.specs.Shape.{item_shapes}
use Rattle.tt_kinds.specs.declared.table.Table.TheVariants.{Patterns, PatternLists}
use Rattle.tt_interner.specs.Rows.{pats_row}
use Rattle.tt_calls.specs.CallForm.{a_list, a_term, terms_at}
use Rattle.tt_calls.specs.Told.{told_all}
use Rattle.tt_calls.proofs.PartLaws.{part-passed}
use Rattle.tt_calls.proofs.BuildLaws.{list-built}
use Rattle.tt_calls.proofs.RoomLaws.{list-room, long-room}
use Rattle.tt_calls.proofs.build.lists.build_pats.Goals as goal

pub mk_pat_list-requires : goal.mk_pat_list-requires
mk_pat_list-requires c = (c.in_ok-fill_handles.ensures.items c.args.cx.now c.requires).ok.parts

pub returns-then-positions-le-MOST_IN_PLACE-clause-list : goal.returns-then-positions-le-MOST_IN_PLACE-clause-list
returns-then-positions-le-MOST_IN_PLACE-clause-list c =
    let few = take (length c.args.positions.now) c.fill_handles.new.places in
    list-built (λ l. l.number) c.args.cx.now c.mk_pat_list.new.self (told_all c.args.cx.now.rows c.args.earlier.now) PatternLists (terms_at Patterns c.args.positions.now)
    (item_shapes pat_shape few) (pats_row few) c.mk_pat_list.result
    (c.in_ok-fill_handles.ensures.items c.args.cx.now c.requires).ok refl refl c.mk_pat_list.ensures

pub returns-then-positions-le-MOST_IN_PLACE-clause-room : goal.returns-then-positions-le-MOST_IN_PLACE-clause-room
returns-then-positions-le-MOST_IN_PLACE-clause-room c =
    let few = take (length c.args.positions.now) c.fill_handles.new.places in
    list-room (λ l. l.number) c.args.cx.now c.mk_pat_list.new.self (told_all c.args.cx.now.rows c.args.earlier.now) PatternLists (terms_at Patterns c.args.positions.now)
    (item_shapes pat_shape few) (pats_row few) c.mk_pat_list.result
    (c.in_ok-fill_handles.ensures.items c.args.cx.now c.requires).ok refl c.mk_pat_list.ensures

pub returns-in_err-pats-clause-list : goal.returns-in_err-pats-clause-list
returns-in_err-pats-clause-list c =
    part-passed c.args.cx.now (told_all c.args.cx.now.rows c.args.earlier.now) (a_list PatternLists (terms_at Patterns c.args.positions.now)) pats_shape c.from_residual-in_err-pats.result c.in_err-pats.field-0.0 c.from_residual-in_err-pats.ensures.1
    (c.in_err-pats.ensures c.args.cx.now c.requires).err

pub returns-in_err-pats-clause-room : goal.returns-in_err-pats-clause-room
returns-in_err-pats-clause-room c =
    long-room (a_term Patterns) c.args.cx.now.rows (told_all c.args.cx.now.rows c.args.earlier.now) PatternLists c.args.positions.now c.from_residual-in_err-pats.result (omega arith)

pub mk_pat_list-requires-2 : goal.mk_pat_list-requires-2
mk_pat_list-requires-2 c = rw (c.as_slice.ensures.value) (c.in_ok-pats.ensures c.args.cx.now c.requires).ok.parts

pub returns-clause-list : goal.returns-clause-list
returns-clause-list c =
    list-built (λ l. l.number) c.args.cx.now c.mk_pat_list-2.new.self (told_all c.args.cx.now.rows c.args.earlier.now) PatternLists (terms_at Patterns c.args.positions.now)
    (item_shapes pat_shape c.in_ok-pats.pats.items) (pats_row c.in_ok-pats.pats.items) c.mk_pat_list-2.result
    (c.in_ok-pats.ensures c.args.cx.now c.requires).ok refl refl (rw (← c.as_slice.ensures.value) c.mk_pat_list-2.ensures)

pub returns-clause-room : goal.returns-clause-room
returns-clause-room c =
    long-room (a_term Patterns) c.mk_pat_list-2.new.self.rows (told_all c.args.cx.now.rows c.args.earlier.now) PatternLists c.args.positions.now c.mk_pat_list-2.result (omega arith)
