use Rattle.tt_calls.specs.declared.call.ArgCall.TheVariants as arg
use Rattle.tt_calls.specs.Told.{told_all, HasFullTable}
use Rattle.tt_calls.proofs.PartLaws.{region-unbuilt}
use Rattle.tt_calls.proofs.ArgumentLaws.{type-argument, const-argument, region-argument, argument-passed}
use Rattle.tt_calls.proofs.ResultLaws.{passed}
use Rattle.tt_calls.proofs.RoomLaws.{never-room, region-room}
use Rattle.tt_calls.proofs.build.lists.build_arg.Goals as goal

pub returns-in_err-handle_at-in-Type-clause-arg : goal.returns-in_err-handle_at-in-Type-clause-arg
returns-in_err-handle_at-in-Type-clause-arg c =
    rw (c.in-Type.is)
    (argument-passed c.args.cx.now (told_all c.args.cx.now.rows c.args.earlier.now) (arg.«Type» c.in-Type.position) c.from_residual.result c.in_err-handle_at-in-Type.field-0.0 c.from_residual.ensures.1
    (c.in_err-handle_at-in-Type.ensures.part c.args.cx.now c.requires).err)

pub returns-in_ok-handle_at-in-Type-clause-arg : goal.returns-in_ok-handle_at-in-Type-clause-arg
returns-in_ok-handle_at-in-Type-clause-arg c =
    rw (c.in-Type.is, c.from.ensures)
    (record { ok = type-argument c.args.cx.now (told_all c.args.cx.now.rows c.args.earlier.now) c.in-Type.position c.in_ok-handle_at-in-Type.field-0 (c.in_ok-handle_at-in-Type.ensures.part c.args.cx.now c.requires).ok; err = tt })

pub returns-in_err-build_region-in-Lifetime-clause-arg : goal.returns-in_err-build_region-in-Lifetime-clause-arg
returns-in_err-build_region-in-Lifetime-clause-arg c =
    rw (c.in-Lifetime.is)
    (argument-passed c.build_region.new.cx (told_all c.args.cx.now.rows c.args.earlier.now) (arg.Lifetime c.in-Lifetime.region) c.from_residual-in_err-build_region-in-Lifetime.result c.in_err-build_region-in-Lifetime.field-0.0
    c.from_residual-in_err-build_region-in-Lifetime.ensures.1
    (region-unbuilt (HasFullTable c.build_region.new.cx) (told_all c.args.cx.now.rows c.args.earlier.now) c.in-Lifetime.region c.in_err-build_region-in-Lifetime.field-0.0 (c.in_err-build_region-in-Lifetime.ensures.region c.args.cx.now.rows).err))

pub returns-in_ok-build_region-in-Lifetime-clause-arg : goal.returns-in_ok-build_region-in-Lifetime-clause-arg
returns-in_ok-build_region-in-Lifetime-clause-arg c =
    rw (c.in-Lifetime.is, c.from-in-Lifetime.ensures)
    (record { ok = region-argument c.build_region.new.cx (told_all c.args.cx.now.rows c.args.earlier.now) c.in-Lifetime.region c.in_ok-build_region-in-Lifetime.field-0 (c.in_ok-build_region-in-Lifetime.ensures.region c.args.cx.now.rows).ok; err = tt })

pub returns-in_err-handle_at-in-Const-clause-arg : goal.returns-in_err-handle_at-in-Const-clause-arg
returns-in_err-handle_at-in-Const-clause-arg c =
    rw (c.in-Const.is)
    (argument-passed c.args.cx.now (told_all c.args.cx.now.rows c.args.earlier.now) (arg.Const c.in-Const.position) c.from_residual-in_err-handle_at-in-Const.result c.in_err-handle_at-in-Const.field-0.0 c.from_residual-in_err-handle_at-in-Const.ensures.1
    (c.in_err-handle_at-in-Const.ensures.part c.args.cx.now c.requires).err)

pub returns-in_ok-handle_at-in-Const-clause-arg : goal.returns-in_ok-handle_at-in-Const-clause-arg
returns-in_ok-handle_at-in-Const-clause-arg c =
    rw (c.in-Const.is, c.from-in-Const.ensures)
    (record { ok = const-argument c.args.cx.now (told_all c.args.cx.now.rows c.args.earlier.now) c.in-Const.position c.in_ok-handle_at-in-Const.field-0 (c.in_ok-handle_at-in-Const.ensures.part c.args.cx.now c.requires).ok; err = tt })

pub returns-in_err-handle_at-in-Type-clause-room : goal.returns-in_err-handle_at-in-Type-clause-room
returns-in_err-handle_at-in-Type-clause-room c =
    let r = c.in_err-handle_at-in-Type in
    passed c.from_residual.result r.field-0.0 _ c.from_residual.ensures.1 (never-room c.args.cx.now.rows _ _ r.field-0.0 r.ensures.cause)

pub returns-in_err-handle_at-in-Const-clause-room : goal.returns-in_err-handle_at-in-Const-clause-room
returns-in_err-handle_at-in-Const-clause-room c =
    let r = c.in_err-handle_at-in-Const in
    passed c.from_residual-in_err-handle_at-in-Const.result r.field-0.0 _ c.from_residual-in_err-handle_at-in-Const.ensures.1 (never-room c.args.cx.now.rows _ _ r.field-0.0 r.ensures.cause)

pub returns-in_err-build_region-in-Lifetime-clause-room : goal.returns-in_err-build_region-in-Lifetime-clause-room
returns-in_err-build_region-in-Lifetime-clause-room c =
    let r = c.in_err-build_region-in-Lifetime in
    rw (c.in-Lifetime.is)
    (passed c.from_residual-in_err-build_region-in-Lifetime.result r.field-0.0 _ c.from_residual-in_err-build_region-in-Lifetime.ensures.1
    (region-room c.build_region.new.cx.rows (told_all c.args.cx.now.rows c.args.earlier.now) c.in-Lifetime.region r.field-0.0 r.ensures.room))
