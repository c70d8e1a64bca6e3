use Rattle.std.proofs.Common.{◌≡◌, ◌<◌, length, take, refl, subst, arith}
use Rattle.std.specs.Prelude.{List, ℕ}
use Rattle.std.proofs.lemmas.List.{take_more, take_more_set, take_all}
use Rattle.std.proofs.lemmas.Option.{slice_get_read}
use Rattle.tt_interner.proofs.Growth.{Extends-trans}
use Rattle.tt_calls.specs.declared.call.VariableCall.{VariableCall}
use Rattle.tt_calls.specs.Told.{told_all}
use Rattle.tt_calls.specs.Means.{number_at}
use Rattle.tt_calls.specs.Build.{AreVariablesOf}
use Rattle.tt_calls.proofs.NameLaws.{vars-passed, variables-more}
use Rattle.tt_calls.proofs.ResultLaws.{passed}
use Rattle.tt_calls.proofs.RoomLaws.{variable-room}
use Rattle.tt_calls.proofs.build.regions.fill_vars.Goals as goal

pub returns-in_err-places-clause-extends : goal.returns-in_err-places-clause-extends
returns-in_err-places-clause-extends c = Extends-trans c.loop-i.invariant.0 c.build_var.ensures.extends

pub returns-in_err-places-clause-vars : goal.returns-in_err-places-clause-vars
returns-in_err-places-clause-vars c = λ rows.
    vars-passed c.build_var.new.cx (number_at (told_all rows c.args.earlier.now)) c.args.vars.now _ c.from_residual.result c.in_err-places.field-0.0
    c.from_residual.ensures.1 (c.in_err-places.ensures.var rows).err

pub returns-in_err-places-clause-room : goal.returns-in_err-places-clause-room
returns-in_err-places-clause-room c =
    let inside : c.loop-i.i < length c.args.vars.now = omega arith in
    let here = slice_get_read c.args.vars.now (length c.args.vars.now) c.loop-i.i c.index-vars-i.result refl inside c.index-vars-i.is in
    passed c.from_residual.result c.in_err-places.field-0.0 _ c.from_residual.ensures.1
    (λ rows. variable-room c.build_var.new.cx.rows (number_at (told_all rows c.args.earlier.now)) c.args.vars.now c.loop-i.i c.index-vars-i.result c.in_err-places.field-0.0 here c.in_err-places.ensures.room)

pub loop-i-preserved : goal.loop-i-preserved
loop-i-preserved c =
    let inside : c.loop-i.i < length c.args.vars.now = omega arith in
    let room : c.loop-i.i < length c.loop-i.places = omega (arith, c.loop-i.auto.places, c.requires, inside) in (
      Extends-trans c.loop-i.invariant.0 c.build_var.ensures.extends,
      λ rows. rw (take_more c.args.vars.now c.loop-i.i c.index-vars-i.result inside, ← c.index-vars-i.is, take_more_set c.loop-i.places c.loop-i.i c.in_ok-places.field-0 room)
          (variables-more c.loop-i.cx c.build_var.new.cx (number_at (told_all rows c.args.earlier.now)) _ _ c.index-vars-i.result c.in_ok-places.field-0 c.build_var.ensures.extends
          (c.loop-i.invariant.1 rows) (c.in_ok-places.ensures.var rows).ok),
    )

pub returns-clause-vars : goal.returns-clause-vars
returns-clause-vars c = λ rows.
    let ids = number_at (told_all rows c.args.earlier.now) in
    let ended : c.loop-i.i ≡ length c.args.vars.now = omega (arith, c.loop-i-test.false, c.loop-i.auto.i-end) in
    record {
      ok = subst (λ (n : ℕ). AreVariablesOf c.loop-i.cx ids c.args.vars.now (take n c.loop-i.places)) ended
          (subst (λ (vs : List VariableCall). AreVariablesOf c.loop-i.cx ids vs (take c.loop-i.i c.loop-i.places))
          (take_all c.loop-i.i c.args.vars.now c.loop-i-test.false) (c.loop-i.invariant.1 rows));
      err = tt;
    }
