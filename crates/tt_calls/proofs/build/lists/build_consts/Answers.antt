use Rattle.std.proofs.Common.{refl, take, length, arith}
use Rattle.tt_kinds.specs.Kinds.{const_shape, consts_shape}
use Rattle.tt_kinds.specs.Shape.{item_shapes}
use Rattle.tt_kinds.specs.declared.table.Table.TheVariants.{Consts, ConstLists}
use Rattle.tt_interner.specs.Rows.{consts_row}
use Rattle.tt_calls.specs.CallForm.{a_list, a_term, terms_at}
use Rattle.tt_calls.specs.Told.{told_all}
use Rattle.tt_calls.proofs.PartLaws.{part-passed}
use Rattle.tt_calls.proofs.BuildLaws.{list-built}
use Rattle.tt_calls.proofs.RoomLaws.{list-room, long-room}
use Rattle.tt_calls.proofs.build.lists.build_consts.Goals as goal

pub mk_consts-requires : goal.mk_consts-requires
mk_consts-requires c = (c.in_ok-fill_handles.ensures.items c.args.cx.now c.requires).ok.parts

pub returns-then-positions-le-MOST_IN_PLACE-clause-list : goal.returns-then-positions-le-MOST_IN_PLACE-clause-list
returns-then-positions-le-MOST_IN_PLACE-clause-list c =
    let few = take (length c.args.positions.now) c.fill_handles.new.places in
    list-built (λ l. l.number) c.args.cx.now c.mk_consts.new.self (told_all c.args.cx.now.rows c.args.earlier.now) ConstLists (terms_at Consts c.args.positions.now)
    (item_shapes const_shape few) (consts_row few) c.mk_consts.result
    (c.in_ok-fill_handles.ensures.items c.args.cx.now c.requires).ok refl refl c.mk_consts.ensures

pub returns-then-positions-le-MOST_IN_PLACE-clause-room : goal.returns-then-positions-le-MOST_IN_PLACE-clause-room
returns-then-positions-le-MOST_IN_PLACE-clause-room c =
    let few = take (length c.args.positions.now) c.fill_handles.new.places in
    list-room (λ l. l.number) c.args.cx.now c.mk_consts.new.self (told_all c.args.cx.now.rows c.args.earlier.now) ConstLists (terms_at Consts c.args.positions.now)
    (item_shapes const_shape few) (consts_row few) c.mk_consts.result
    (c.in_ok-fill_handles.ensures.items c.args.cx.now c.requires).ok refl c.mk_consts.ensures

pub returns-in_err-consts-clause-list : goal.returns-in_err-consts-clause-list
returns-in_err-consts-clause-list c =
    part-passed c.args.cx.now (told_all c.args.cx.now.rows c.args.earlier.now) (a_list ConstLists (terms_at Consts c.args.positions.now)) consts_shape c.from_residual-in_err-consts.result c.in_err-consts.field-0.0 c.from_residual-in_err-consts.ensures.1
    (c.in_err-consts.ensures c.args.cx.now c.requires).err

pub returns-in_err-consts-clause-room : goal.returns-in_err-consts-clause-room
returns-in_err-consts-clause-room c =
    long-room (a_term Consts) c.args.cx.now.rows (told_all c.args.cx.now.rows c.args.earlier.now) ConstLists c.args.positions.now c.from_residual-in_err-consts.result (omega arith)

pub mk_consts-requires-2 : goal.mk_consts-requires-2
mk_consts-requires-2 c = rw (c.as_slice.ensures.value) (c.in_ok-consts.ensures c.args.cx.now c.requires).ok.parts

pub returns-clause-list : goal.returns-clause-list
returns-clause-list c =
    list-built (λ l. l.number) c.args.cx.now c.mk_consts-2.new.self (told_all c.args.cx.now.rows c.args.earlier.now) ConstLists (terms_at Consts c.args.positions.now)
    (item_shapes const_shape c.in_ok-consts.consts.items) (consts_row c.in_ok-consts.consts.items) c.mk_consts-2.result
    (c.in_ok-consts.ensures c.args.cx.now c.requires).ok refl refl (rw (← c.as_slice.ensures.value) c.mk_consts-2.ensures)

pub returns-clause-room : goal.returns-clause-room
returns-clause-room c =
    long-room (a_term Consts) c.mk_consts-2.new.self.rows (told_all c.args.cx.now.rows c.args.earlier.now) ConstLists c.args.positions.now c.mk_consts-2.result (omega arith)
