use Rattle.std.proofs.Common.{refl}
use Rattle.tt_kinds.specs.Kinds.{region_shape, ty_shape, const_shape, pat_shape, tys_shape, consts_shape, pats_shape, args_shape}
use Rattle.tt_kinds.specs.Parts.{child_in}
use Rattle.tt_kinds.specs.declared.parts.Child.TheVariants as child
use Rattle.tt_kinds.specs.declared.table.TermTable.TheVariants as terms_of
use Rattle.tt_kinds.specs.declared.table.Table.TheVariants.{Types, Consts, Patterns, TypeLists, ConstLists, PatternLists}
use Rattle.tt_calls.specs.CallForm.{one, a_region, a_term, a_list, terms_at, args_part}
use Rattle.tt_calls.specs.Told.{told_all, HasFullTable}
use Rattle.tt_calls.proofs.PartLaws.{region-part, region-unbuilt}
use Rattle.tt_calls.proofs.ChildLaws.{child-given, child-passed}
use Rattle.tt_calls.proofs.ResultLaws.{passed}
use Rattle.tt_calls.proofs.RoomLaws.{never-room, region-room}
use Rattle.tt_calls.proofs.build.parts.build_part.Goals as goal

pub returns-in_err-build_region-in-Region-clause-child : goal.returns-in_err-build_region-in-Region-clause-child
returns-in_err-build_region-in-Region-clause-child c =
    let e = told_all c.args.cx.now.rows c.args.earlier.now in
    let r = c.in_err-build_region-in-Region in
    rw (c.in-Region.is)
    (child-passed c.build_region.new.cx e (one (a_region c.in-Region.region.now)) c.from_residual.result r.field-0.0 c.from_residual.ensures.1
    (region-unbuilt (HasFullTable c.build_region.new.cx) e c.in-Region.region.now r.field-0.0 (r.ensures.region c.args.cx.now.rows).err))

pub returns-in_err-build_region-in-Region-clause-room : goal.returns-in_err-build_region-in-Region-clause-room
returns-in_err-build_region-in-Region-clause-room c =
    let e = told_all c.args.cx.now.rows c.args.earlier.now in
    let r = c.in_err-build_region-in-Region in
    rw (c.in-Region.is)
    (passed c.from_residual.result r.field-0.0 _ c.from_residual.ensures.1 (region-room c.build_region.new.cx.rows e c.in-Region.region.now r.field-0.0 r.ensures.room))

pub returns-in_ok-build_region-in-Region-clause-child : goal.returns-in_ok-build_region-in-Region-clause-child
returns-in_ok-build_region-in-Region-clause-child c =
    let e = told_all c.args.cx.now.rows c.args.earlier.now in
    let r = c.in_ok-build_region-in-Region in
    rw (c.in-Region.is)
    (child-given c.build_region.new.cx e (one (a_region c.in-Region.region.now)) (region_shape r.field-0) (child.Region r.field-0)
    (region-part c.build_region.new.cx e c.in-Region.region.now r.field-0 (r.ensures.region c.args.cx.now.rows).ok) refl refl)

pub returns-in_err-handle_at-in-Ty-clause-child : goal.returns-in_err-handle_at-in-Ty-clause-child
returns-in_err-handle_at-in-Ty-clause-child c =
    let r = c.in_err-handle_at-in-Ty in
    rw (c.in-Ty.is)
    (child-passed c.args.cx.now (told_all c.args.cx.now.rows c.args.earlier.now) (one (a_term Types c.in-Ty.position)) c.from_residual-in_err-handle_at-in-Ty.result r.field-0.0 c.from_residual-in_err-handle_at-in-Ty.ensures.1 (r.ensures.part c.args.cx.now c.requires).err)

pub returns-in_ok-handle_at-in-Ty-clause-child : goal.returns-in_ok-handle_at-in-Ty-clause-child
returns-in_ok-handle_at-in-Ty-clause-child c =
    let r = c.in_ok-handle_at-in-Ty in
    rw (c.in-Ty.is, c.child.ensures)
    (child-given c.args.cx.now (told_all c.args.cx.now.rows c.args.earlier.now) (one (a_term Types c.in-Ty.position)) (ty_shape r.field-0) (child_in terms_of.Types r.field-0) (r.ensures.part c.args.cx.now c.requires).ok refl refl)

pub returns-in_err-handle_at-in-Ty-clause-room : goal.returns-in_err-handle_at-in-Ty-clause-room
returns-in_err-handle_at-in-Ty-clause-room c =
    let r = c.in_err-handle_at-in-Ty in
    passed c.from_residual-in_err-handle_at-in-Ty.result r.field-0.0 _ c.from_residual-in_err-handle_at-in-Ty.ensures.1 (never-room c.args.cx.now.rows _ _ r.field-0.0 r.ensures.cause)

pub returns-in_err-handle_at-in-Const-clause-child : goal.returns-in_err-handle_at-in-Const-clause-child
returns-in_err-handle_at-in-Const-clause-child c =
    let r = c.in_err-handle_at-in-Const in
    rw (c.in-Const.is)
    (child-passed c.args.cx.now (told_all c.args.cx.now.rows c.args.earlier.now) (one (a_term Consts c.in-Const.position)) c.from_residual-in_err-handle_at-in-Const.result r.field-0.0 c.from_residual-in_err-handle_at-in-Const.ensures.1 (r.ensures.part c.args.cx.now c.requires).err)

pub returns-in_ok-handle_at-in-Const-clause-child : goal.returns-in_ok-handle_at-in-Const-clause-child
returns-in_ok-handle_at-in-Const-clause-child c =
    let r = c.in_ok-handle_at-in-Const in
    rw (c.in-Const.is, c.child-in-Const.ensures)
    (child-given c.args.cx.now (told_all c.args.cx.now.rows c.args.earlier.now) (one (a_term Consts c.in-Const.position)) (const_shape r.field-0) (child_in terms_of.Consts r.field-0) (r.ensures.part c.args.cx.now c.requires).ok refl refl)

pub returns-in_err-handle_at-in-Const-clause-room : goal.returns-in_err-handle_at-in-Const-clause-room
returns-in_err-handle_at-in-Const-clause-room c =
    let r = c.in_err-handle_at-in-Const in
    passed c.from_residual-in_err-handle_at-in-Const.result r.field-0.0 _ c.from_residual-in_err-handle_at-in-Const.ensures.1 (never-room c.args.cx.now.rows _ _ r.field-0.0 r.ensures.cause)

pub returns-in_err-handle_at-in-Pat-clause-child : goal.returns-in_err-handle_at-in-Pat-clause-child
returns-in_err-handle_at-in-Pat-clause-child c =
    let r = c.in_err-handle_at-in-Pat in
    rw (c.in-Pat.is)
    (child-passed c.args.cx.now (told_all c.args.cx.now.rows c.args.earlier.now) (one (a_term Patterns c.in-Pat.position)) c.from_residual-in_err-handle_at-in-Pat.result r.field-0.0 c.from_residual-in_err-handle_at-in-Pat.ensures.1 (r.ensures.part c.args.cx.now c.requires).err)

pub returns-in_ok-handle_at-in-Pat-clause-child : goal.returns-in_ok-handle_at-in-Pat-clause-child
returns-in_ok-handle_at-in-Pat-clause-child c =
    let r = c.in_ok-handle_at-in-Pat in
    rw (c.in-Pat.is, c.child-in-Pat.ensures)
    (child-given c.args.cx.now (told_all c.args.cx.now.rows c.args.earlier.now) (one (a_term Patterns c.in-Pat.position)) (pat_shape r.field-0) (child_in terms_of.Patterns r.field-0) (r.ensures.part c.args.cx.now c.requires).ok refl refl)

pub returns-in_err-handle_at-in-Pat-clause-room : goal.returns-in_err-handle_at-in-Pat-clause-room
returns-in_err-handle_at-in-Pat-clause-room c =
    let r = c.in_err-handle_at-in-Pat in
    passed c.from_residual-in_err-handle_at-in-Pat.result r.field-0.0 _ c.from_residual-in_err-handle_at-in-Pat.ensures.1 (never-room c.args.cx.now.rows _ _ r.field-0.0 r.ensures.cause)

pub returns-in_err-build_tys-in-Tys-clause-child : goal.returns-in_err-build_tys-in-Tys-clause-child
returns-in_err-build_tys-in-Tys-clause-child c =
    let r = c.in_err-build_tys-in-Tys in
    rw (c.in-Tys.is)
    (child-passed c.build_tys.new.cx (told_all c.args.cx.now.rows c.args.earlier.now) (a_list TypeLists (terms_at Types c.in-Tys.positions.now)) c.from_residual-in_err-build_tys-in-Tys.result r.field-0.0 c.from_residual-in_err-build_tys-in-Tys.ensures.1 r.ensures.list.err)

pub returns-in_ok-build_tys-in-Tys-clause-child : goal.returns-in_ok-build_tys-in-Tys-clause-child
returns-in_ok-build_tys-in-Tys-clause-child c =
    let r = c.in_ok-build_tys-in-Tys in
    rw (c.in-Tys.is, c.child-in-Tys.ensures)
    (child-given c.build_tys.new.cx (told_all c.args.cx.now.rows c.args.earlier.now) (a_list TypeLists (terms_at Types c.in-Tys.positions.now)) (tys_shape r.field-0) (child_in terms_of.TypeLists r.field-0) r.ensures.list.ok refl refl)

pub returns-in_err-build_tys-in-Tys-clause-room : goal.returns-in_err-build_tys-in-Tys-clause-room
returns-in_err-build_tys-in-Tys-clause-room c =
    let r = c.in_err-build_tys-in-Tys in
    rw (c.in-Tys.is) (passed c.from_residual-in_err-build_tys-in-Tys.result r.field-0.0 _ c.from_residual-in_err-build_tys-in-Tys.ensures.1 r.ensures.room)

pub returns-in_err-build_consts-in-Consts-clause-child : goal.returns-in_err-build_consts-in-Consts-clause-child
returns-in_err-build_consts-in-Consts-clause-child c =
    let r = c.in_err-build_consts-in-Consts in
    rw (c.in-Consts.is)
    (child-passed c.build_consts.new.cx (told_all c.args.cx.now.rows c.args.earlier.now) (a_list ConstLists (terms_at Consts c.in-Consts.positions.now)) c.from_residual-in_err-build_consts-in-Consts.result r.field-0.0 c.from_residual-in_err-build_consts-in-Consts.ensures.1 r.ensures.list.err)

pub returns-in_ok-build_consts-in-Consts-clause-child : goal.returns-in_ok-build_consts-in-Consts-clause-child
returns-in_ok-build_consts-in-Consts-clause-child c =
    let r = c.in_ok-build_consts-in-Consts in
    rw (c.in-Consts.is, c.child-in-Consts.ensures)
    (child-given c.build_consts.new.cx (told_all c.args.cx.now.rows c.args.earlier.now) (a_list ConstLists (terms_at Consts c.in-Consts.positions.now)) (consts_shape r.field-0) (child_in terms_of.ConstLists r.field-0) r.ensures.list.ok refl refl)

pub returns-in_err-build_consts-in-Consts-clause-room : goal.returns-in_err-build_consts-in-Consts-clause-room
returns-in_err-build_consts-in-Consts-clause-room c =
    let r = c.in_err-build_consts-in-Consts in
    rw (c.in-Consts.is) (passed c.from_residual-in_err-build_consts-in-Consts.result r.field-0.0 _ c.from_residual-in_err-build_consts-in-Consts.ensures.1 r.ensures.room)

pub returns-in_err-build_pats-in-Pats-clause-child : goal.returns-in_err-build_pats-in-Pats-clause-child
returns-in_err-build_pats-in-Pats-clause-child c =
    let r = c.in_err-build_pats-in-Pats in
    rw (c.in-Pats.is)
    (child-passed c.build_pats.new.cx (told_all c.args.cx.now.rows c.args.earlier.now) (a_list PatternLists (terms_at Patterns c.in-Pats.positions.now)) c.from_residual-in_err-build_pats-in-Pats.result r.field-0.0 c.from_residual-in_err-build_pats-in-Pats.ensures.1 r.ensures.list.err)

pub returns-in_ok-build_pats-in-Pats-clause-child : goal.returns-in_ok-build_pats-in-Pats-clause-child
returns-in_ok-build_pats-in-Pats-clause-child c =
    let r = c.in_ok-build_pats-in-Pats in
    rw (c.in-Pats.is, c.child-in-Pats.ensures)
    (child-given c.build_pats.new.cx (told_all c.args.cx.now.rows c.args.earlier.now) (a_list PatternLists (terms_at Patterns c.in-Pats.positions.now)) (pats_shape r.field-0) (child_in terms_of.PatternLists r.field-0) r.ensures.list.ok refl refl)

pub returns-in_err-build_pats-in-Pats-clause-room : goal.returns-in_err-build_pats-in-Pats-clause-room
returns-in_err-build_pats-in-Pats-clause-room c =
    let r = c.in_err-build_pats-in-Pats in
    rw (c.in-Pats.is) (passed c.from_residual-in_err-build_pats-in-Pats.result r.field-0.0 _ c.from_residual-in_err-build_pats-in-Pats.ensures.1 r.ensures.room)

pub returns-in_err-build_arg_list-in-Args-clause-child : goal.returns-in_err-build_arg_list-in-Args-clause-child
returns-in_err-build_arg_list-in-Args-clause-child c =
    let r = c.in_err-build_arg_list-in-Args in
    rw (c.in-Args.is)
    (child-passed c.build_arg_list.new.cx (told_all c.args.cx.now.rows c.args.earlier.now) (args_part c.in-Args.args.now) c.from_residual-in_err-build_arg_list-in-Args.result r.field-0.0 c.from_residual-in_err-build_arg_list-in-Args.ensures.1 r.ensures.list.err)

pub returns-in_ok-build_arg_list-in-Args-clause-child : goal.returns-in_ok-build_arg_list-in-Args-clause-child
returns-in_ok-build_arg_list-in-Args-clause-child c =
    let r = c.in_ok-build_arg_list-in-Args in
    rw (c.in-Args.is, c.child-in-Args.ensures)
    (child-given c.build_arg_list.new.cx (told_all c.args.cx.now.rows c.args.earlier.now) (args_part c.in-Args.args.now) (args_shape r.field-0) (child_in terms_of.ArgLists r.field-0) r.ensures.list.ok refl refl)

pub returns-in_err-build_arg_list-in-Args-clause-room : goal.returns-in_err-build_arg_list-in-Args-clause-room
returns-in_err-build_arg_list-in-Args-clause-room c =
    let r = c.in_err-build_arg_list-in-Args in
    rw (c.in-Args.is) (passed c.from_residual-in_err-build_arg_list-in-Args.result r.field-0.0 _ c.from_residual-in_err-build_arg_list-in-Args.ensures.1 r.ensures.room)
