use Rattle.std.proofs.Common.{◌≡◌, ◌<◌, length, take, get_or, subst, arith}
use Rattle.std.specs.Prelude.{List, ℕ}
use Rattle.std.proofs.lemmas.List.{take_more, take_more_set, take_all}
use Rattle.std.proofs.lemmas.Option.{slice_get-get_or}
use Rattle.tt_kinds.specs.Kinds.{clause_shape}
use Rattle.tt_calls.specs.CallForm.{a_clause}
use Rattle.tt_calls.specs.Told.{told_all, HasFullTable}
use Rattle.tt_calls.specs.Build.{AreClausesAt}
use Rattle.tt_calls.proofs.ResultLaws.{passed}
use Rattle.tt_calls.proofs.PartLaws.{unbuilt-among}
use Rattle.tt_calls.proofs.ClauseLaws.{clauses-none, clauses-more}
use Rattle.tt_calls.proofs.build.clauses.fill_clauses.Goals as goal

pub loop-i-init : goal.loop-i-init
loop-i-init c = clauses-none c.args.cx.now (told_all c.args.cx.now.rows c.args.earlier.now)

pub returns-in_err-places-clause-err : goal.returns-in_err-places-clause-err
returns-in_err-places-clause-err c =
    let inside : c.loop-i.i < length c.args.positions.now = omega arith in
    passed c.from_residual.result c.in_err-places.field-0.0 _ c.from_residual.ensures.1
    (unbuilt-among a_clause clause_shape (HasFullTable c.args.cx.now) (told_all c.args.cx.now.rows c.args.earlier.now) c.args.positions.now c.loop-i.i
    (get_or c.args.positions.now c.loop-i.i 0) c.in_err-places.field-0.0
    (slice_get-get_or c.args.positions.now c.loop-i.i 0 inside) c.in_err-places.ensures.part.err)

pub loop-i-preserved : goal.loop-i-preserved
loop-i-preserved c =
    let inside : c.loop-i.i < length c.args.positions.now = omega arith in
    let room : c.loop-i.i < length c.loop-i.places = omega (arith, c.loop-i.auto.places, c.requires.few, inside) in
    rw (take_more c.args.positions.now c.loop-i.i 0 inside, take_more_set c.loop-i.places c.loop-i.i c.in_ok-places.field-0 room)
    (clauses-more c.args.cx.now (told_all c.args.cx.now.rows c.args.earlier.now) _ _ _ _ c.loop-i.invariant c.in_ok-places.ensures.part.ok c.in_ok-places.ensures.clause)

pub returns-clause-ok : goal.returns-clause-ok
returns-clause-ok c =
    let e = told_all c.args.cx.now.rows c.args.earlier.now in
    let ended : c.loop-i.i ≡ length c.args.positions.now = omega (arith, c.loop-i-test.false, c.loop-i.auto.i-end) in
    subst (λ (n : ℕ). AreClausesAt c.args.cx.now e c.args.positions.now (take n c.loop-i.places)) ended
    (subst (λ (ps : List ℕ). AreClausesAt c.args.cx.now e ps (take c.loop-i.i c.loop-i.places)) (take_all c.loop-i.i c.args.positions.now c.loop-i-test.false) c.loop-i.invariant)
