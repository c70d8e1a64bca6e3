use Rattle.std.proofs.Common.{refl, take, length, arith}
use Rattle.tt_kinds.specs.Kinds.{arg_shape, args_shape}
use Rattle.tt_kinds.specs.Shape.{item_shapes}
use Rattle.tt_kinds.specs.declared.table.Table.TheVariants.{ArgLists}
use Rattle.tt_interner.specs.Rows.{args_row}
use Rattle.tt_interner.proofs.Growth.{Extends-trans}
use Rattle.tt_calls.specs.CallForm.{args_part, arg_item, arg_items}
use Rattle.tt_calls.specs.Told.{told_all}
use Rattle.tt_calls.proofs.PartLaws.{part-passed}
use Rattle.tt_calls.proofs.BuildLaws.{list-built}
use Rattle.tt_calls.proofs.RoomLaws.{list-room, long-room}
use Rattle.tt_calls.proofs.build.lists.build_arg_list.Goals as goal

pub mk_args-requires : goal.mk_args-requires
mk_args-requires c = c.in_ok-fill_args.ensures.args.ok.parts

pub returns-then-args-le-MOST_IN_PLACE-clause-extends : goal.returns-then-args-le-MOST_IN_PLACE-clause-extends
returns-then-args-le-MOST_IN_PLACE-clause-extends c = Extends-trans c.fill_args.ensures.extends (record { rows = c.mk_args.ensures.grows; limit = c.mk_args.ensures.limit })

pub returns-then-args-le-MOST_IN_PLACE-clause-list : goal.returns-then-args-le-MOST_IN_PLACE-clause-list
returns-then-args-le-MOST_IN_PLACE-clause-list c =
    let few = take (length c.args.args.now) c.fill_args.new.places in
    list-built (λ l. l.number) c.fill_args.new.cx c.mk_args.new.self (told_all c.args.cx.now.rows c.args.earlier.now) ArgLists (arg_items c.args.args.now)
    (item_shapes arg_shape few) (args_row few) c.mk_args.result c.in_ok-fill_args.ensures.args.ok refl refl c.mk_args.ensures

pub returns-then-args-le-MOST_IN_PLACE-clause-room : goal.returns-then-args-le-MOST_IN_PLACE-clause-room
returns-then-args-le-MOST_IN_PLACE-clause-room c =
    let few = take (length c.args.args.now) c.fill_args.new.places in
    list-room (λ l. l.number) c.fill_args.new.cx c.mk_args.new.self (told_all c.args.cx.now.rows c.args.earlier.now) ArgLists (arg_items c.args.args.now)
    (item_shapes arg_shape few) (args_row few) c.mk_args.result c.in_ok-fill_args.ensures.args.ok refl c.mk_args.ensures

pub returns-in_err-args-clause-list : goal.returns-in_err-args-clause-list
returns-in_err-args-clause-list c =
    part-passed c.build_args.new.cx (told_all c.args.cx.now.rows c.args.earlier.now) (args_part c.args.args.now) args_shape c.from_residual-in_err-args.result c.in_err-args.field-0.0 c.from_residual-in_err-args.ensures.1
    c.in_err-args.ensures.args.err

pub returns-in_err-args-clause-room : goal.returns-in_err-args-clause-room
returns-in_err-args-clause-room c =
    long-room arg_item c.build_args.new.cx.rows (told_all c.args.cx.now.rows c.args.earlier.now) ArgLists c.args.args.now c.from_residual-in_err-args.result (omega arith)

pub mk_args-requires-2 : goal.mk_args-requires-2
mk_args-requires-2 c = rw (c.as_slice.ensures.value) c.in_ok-args.ensures.args.ok.items.parts

pub returns-clause-extends : goal.returns-clause-extends
returns-clause-extends c = Extends-trans c.build_args.ensures.extends (record { rows = c.mk_args-2.ensures.grows; limit = c.mk_args-2.ensures.limit })

pub returns-clause-list : goal.returns-clause-list
returns-clause-list c =
    list-built (λ l. l.number) c.build_args.new.cx c.mk_args-2.new.self (told_all c.args.cx.now.rows c.args.earlier.now) ArgLists (arg_items c.args.args.now)
    (item_shapes arg_shape c.in_ok-args.args.items) (args_row c.in_ok-args.args.items) c.mk_args-2.result
    c.in_ok-args.ensures.args.ok.items refl refl (rw (← c.as_slice.ensures.value) c.mk_args-2.ensures)

pub returns-clause-room : goal.returns-clause-room
returns-clause-room c =
    long-room arg_item c.mk_args-2.new.self.rows (told_all c.args.cx.now.rows c.args.earlier.now) ArgLists c.args.args.now c.mk_args-2.result (omega arith)
