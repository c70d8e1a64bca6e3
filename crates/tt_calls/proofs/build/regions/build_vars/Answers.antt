use Rattle.std.proofs.Common.{◌<◌, ◌≤◌, length, take, arith}
use Rattle.std.proofs.lemmas.List.{take_more, take_all}
use Rattle.tt_interner.proofs.Growth.{Extends-refl, Extends-trans}
use Rattle.tt_calls.specs.Told.{told_all}
use Rattle.tt_calls.specs.Means.{number_at}
use Rattle.tt_calls.proofs.NameLaws.{variables-passed, variables-nothing, variables-more, variables-built}
use Rattle.tt_calls.proofs.RoomLaws.{every-vars-room, vars-room, long-vars-room}
use Rattle.tt_calls.proofs.build.regions.build_vars.Goals as goal

pub loop-var-init : goal.loop-var-init
loop-var-init c = (Extends-refl c.args.cx.now, λ rows. rw (c.in_ok-built.ensures.items) (variables-nothing c.args.cx.now (number_at (told_all rows c.args.earlier.now))))

pub returns-in_err-var-clause-extends : goal.returns-in_err-var-clause-extends
returns-in_err-var-clause-extends c = Extends-trans c.loop-var.invariant.0 c.build_var.ensures.extends

pub returns-in_err-var-clause-vars : goal.returns-in_err-var-clause-vars
returns-in_err-var-clause-vars c = λ rows.
    variables-passed c.build_var.new.cx (number_at (told_all rows c.args.earlier.now)) c.args.vars.now c.from_residual-in_err-var.result c.in_err-var.field-0.0
    c.from_residual-in_err-var.ensures.1 (c.in_err-var.ensures.var rows).err

pub returns-in_err-push-clause-extends : goal.returns-in_err-push-clause-extends
returns-in_err-push-clause-extends c = Extends-trans c.loop-var.invariant.0 c.build_var.ensures.extends

pub loop-var-preserved : goal.loop-var-preserved
loop-var-preserved c =
    let inside : c.loop-var.var-index < length c.args.vars.now = omega arith in (
      Extends-trans c.loop-var.invariant.0 c.build_var.ensures.extends,
      λ rows. rw (take_more c.args.vars.now c.loop-var.var-index c.var-item.result inside, ← c.var-item.is, c.in_ok-push.ensures.items)
          (variables-more c.loop-var.cx c.build_var.new.cx (number_at (told_all rows c.args.earlier.now)) _ _ c.var-item.result c.in_ok-var.var c.build_var.ensures.extends (c.loop-var.invariant.1 rows) (c.in_ok-var.ensures.var rows).ok),
    )

pub mk_bound_vars-requires-2 : goal.mk_bound_vars-requires-2
mk_bound_vars-requires-2 c = rw (c.as_slice.ensures.value) ((c.loop-var.invariant.1 c.args.cx.now.rows).parts, tt)

pub returns-clause-extends : goal.returns-clause-extends
returns-clause-extends c = Extends-trans c.loop-var.invariant.0 (record { rows = c.mk_bound_vars-2.ensures.grows; limit = c.mk_bound_vars-2.ensures.limit })

pub returns-clause-vars : goal.returns-clause-vars
returns-clause-vars c = λ rows.
    let ended : length c.args.vars.now ≤ c.loop-var.var-index = omega arith in
    variables-built c.loop-var.cx c.mk_bound_vars-2.new.self (number_at (told_all rows c.args.earlier.now)) c.args.vars.now c.loop-var.built.items c.mk_bound_vars-2.result
    (rw (← take_all c.loop-var.var-index c.args.vars.now ended) (c.loop-var.invariant.1 rows)) (rw (← c.as_slice.ensures.value) c.mk_bound_vars-2.ensures)

pub mk_bound_vars-requires : goal.mk_bound_vars-requires
mk_bound_vars-requires c = ((c.in_ok-fill_vars.ensures.vars c.args.cx.now.rows).ok.parts, tt)

pub returns-in_err-fill_vars-clause-vars : goal.returns-in_err-fill_vars-clause-vars
returns-in_err-fill_vars-clause-vars c = λ rows.
    variables-passed c.fill_vars.new.cx (number_at (told_all rows c.args.earlier.now)) c.args.vars.now c.from_residual.result c.in_err-fill_vars.field-0.0
    c.from_residual.ensures.1 (c.in_err-fill_vars.ensures.vars rows).err

pub returns-then-vars-le-MOST_IN_PLACE-clause-extends : goal.returns-then-vars-le-MOST_IN_PLACE-clause-extends
returns-then-vars-le-MOST_IN_PLACE-clause-extends c = Extends-trans c.fill_vars.ensures.extends (record { rows = c.mk_bound_vars.ensures.grows; limit = c.mk_bound_vars.ensures.limit })

pub returns-then-vars-le-MOST_IN_PLACE-clause-vars : goal.returns-then-vars-le-MOST_IN_PLACE-clause-vars
returns-then-vars-le-MOST_IN_PLACE-clause-vars c = λ rows.
    variables-built c.fill_vars.new.cx c.mk_bound_vars.new.self (number_at (told_all rows c.args.earlier.now)) c.args.vars.now (take (length c.args.vars.now) c.fill_vars.new.places) c.mk_bound_vars.result
    (c.in_ok-fill_vars.ensures.vars rows).ok c.mk_bound_vars.ensures

pub returns-then-vars-le-MOST_IN_PLACE-clause-room : goal.returns-then-vars-le-MOST_IN_PLACE-clause-room
returns-then-vars-le-MOST_IN_PLACE-clause-room c =
    every-vars-room c.mk_bound_vars.new.self.rows c.args.earlier.now c.args.vars.now c.mk_bound_vars.result
    (λ rows. vars-room c.fill_vars.new.cx c.mk_bound_vars.new.self (number_at (told_all rows c.args.earlier.now)) c.args.vars.now (take (length c.args.vars.now) c.fill_vars.new.places) (λ l. l.number) c.mk_bound_vars.result
    (c.in_ok-fill_vars.ensures.vars rows).ok c.mk_bound_vars.ensures)

pub returns-in_err-built-clause-room : goal.returns-in_err-built-clause-room
returns-in_err-built-clause-room c =
    every-vars-room c.args.cx.now.rows c.args.earlier.now c.args.vars.now c.from_residual-in_err-built.result
    (λ rows. long-vars-room c.args.cx.now.rows (number_at (told_all rows c.args.earlier.now)) c.args.vars.now c.from_residual-in_err-built.result (omega arith))

pub returns-in_err-var-clause-room : goal.returns-in_err-var-clause-room
returns-in_err-var-clause-room c =
    every-vars-room c.build_var.new.cx.rows c.args.earlier.now c.args.vars.now c.from_residual-in_err-var.result
    (λ rows. long-vars-room c.build_var.new.cx.rows (number_at (told_all rows c.args.earlier.now)) c.args.vars.now c.from_residual-in_err-var.result (omega arith))

pub returns-in_err-push-clause-room : goal.returns-in_err-push-clause-room
returns-in_err-push-clause-room c =
    every-vars-room c.build_var.new.cx.rows c.args.earlier.now c.args.vars.now c.from_residual-in_err-push.result
    (λ rows. long-vars-room c.build_var.new.cx.rows (number_at (told_all rows c.args.earlier.now)) c.args.vars.now c.from_residual-in_err-push.result (omega arith))

pub returns-clause-room : goal.returns-clause-room
returns-clause-room c =
    every-vars-room c.mk_bound_vars-2.new.self.rows c.args.earlier.now c.args.vars.now c.mk_bound_vars-2.result
    (λ rows. long-vars-room c.mk_bound_vars-2.new.self.rows (number_at (told_all rows c.args.earlier.now)) c.args.vars.now c.mk_bound_vars-2.result (omega arith))
