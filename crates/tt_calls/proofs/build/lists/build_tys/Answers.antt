use Rattle.std.proofs.Common.{refl, take, length, arith}
use Rattle.tt_kinds.specs.Kinds.{ty_shape, tys_shape}
use Rattle.tt_kinds.specs.Shape.{item_shapes}
use Rattle.tt_kinds.specs.declared.table.Table.TheVariants.{Types, TypeLists}
use Rattle.tt_interner.specs.Rows.{tys_row}
use Rattle.tt_calls.specs.CallForm.{a_list, a_term, terms_at}
use Rattle.tt_calls.specs.Told.{told_all}
use Rattle.tt_calls.proofs.PartLaws.{part-passed}
use Rattle.tt_calls.proofs.BuildLaws.{list-built}
use Rattle.tt_calls.proofs.RoomLaws.{list-room, long-room}
use Rattle.tt_calls.proofs.build.lists.build_tys.Goals as goal

pub mk_tys-requires : goal.mk_tys-requires
mk_tys-requires c = (c.in_ok-fill_handles.ensures.items c.args.cx.now c.requires).ok.parts

pub returns-then-positions-le-MOST_IN_PLACE-clause-list : goal.returns-then-positions-le-MOST_IN_PLACE-clause-list
returns-then-positions-le-MOST_IN_PLACE-clause-list c =
    let few = take (length c.args.positions.now) c.fill_handles.new.places in
    list-built (λ l. l.number) c.args.cx.now c.mk_tys.new.self (told_all c.args.cx.now.rows c.args.earlier.now) TypeLists (terms_at Types c.args.positions.now)
    (item_shapes ty_shape few) (tys_row few) c.mk_tys.result
    (c.in_ok-fill_handles.ensures.items c.args.cx.now c.requires).ok refl refl c.mk_tys.ensures

pub returns-then-positions-le-MOST_IN_PLACE-clause-room : goal.returns-then-positions-le-MOST_IN_PLACE-clause-room
returns-then-positions-le-MOST_IN_PLACE-clause-room c =
    let few = take (length c.args.positions.now) c.fill_handles.new.places in
    list-room (λ l. l.number) c.args.cx.now c.mk_tys.new.self (told_all c.args.cx.now.rows c.args.earlier.now) TypeLists (terms_at Types c.args.positions.now)
    (item_shapes ty_shape few) (tys_row few) c.mk_tys.result
    (c.in_ok-fill_handles.ensures.items c.args.cx.now c.requires).ok refl c.mk_tys.ensures

pub returns-in_err-tys-clause-list : goal.returns-in_err-tys-clause-list
returns-in_err-tys-clause-list c =
    part-passed c.args.cx.now (told_all c.args.cx.now.rows c.args.earlier.now) (a_list TypeLists (terms_at Types c.args.positions.now)) tys_shape c.from_residual-in_err-tys.result c.in_err-tys.field-0.0 c.from_residual-in_err-tys.ensures.1
    (c.in_err-tys.ensures c.args.cx.now c.requires).err

pub returns-in_err-tys-clause-room : goal.returns-in_err-tys-clause-room
returns-in_err-tys-clause-room c =
    long-room (a_term Types) c.args.cx.now.rows (told_all c.args.cx.now.rows c.args.earlier.now) TypeLists c.args.positions.now c.from_residual-in_err-tys.result (omega arith)

pub mk_tys-requires-2 : goal.mk_tys-requires-2
mk_tys-requires-2 c = rw (c.as_slice.ensures.value) (c.in_ok-tys.ensures c.args.cx.now c.requires).ok.parts

pub returns-clause-list : goal.returns-clause-list
returns-clause-list c =
    list-built (λ l. l.number) c.args.cx.now c.mk_tys-2.new.self (told_all c.args.cx.now.rows c.args.earlier.now) TypeLists (terms_at Types c.args.positions.now)
    (item_shapes ty_shape c.in_ok-tys.tys.items) (tys_row c.in_ok-tys.tys.items) c.mk_tys-2.result
    (c.in_ok-tys.ensures c.args.cx.now c.requires).ok refl refl (rw (← c.as_slice.ensures.value) c.mk_tys-2.ensures)

pub returns-clause-room : goal.returns-clause-room
returns-clause-room c =
    long-room (a_term Types) c.mk_tys-2.new.self.rows (told_all c.args.cx.now.rows c.args.earlier.now) TypeLists c.args.positions.now c.mk_tys-2.result (omega arith)
