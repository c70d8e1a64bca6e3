use Rattle.std.proofs.Common.{◌<◌, ◌≤◌, length, get_or, arith, subst}
use Rattle.std.specs.Prelude.{List, ℕ}
use Rattle.std.proofs.lemmas.List.{take_more, take_all}
use Rattle.std.proofs.lemmas.Option.{slice_get-get_or}
use Rattle.tt_kinds.specs.Kinds.{clause_shape}
use Rattle.tt_calls.specs.CallForm.{a_clause}
use Rattle.tt_calls.specs.Told.{told_all, HasFullTable}
use Rattle.tt_calls.specs.Build.{AreClausesAt}
use Rattle.tt_calls.proofs.ResultLaws.{passed}
use Rattle.tt_calls.proofs.PartLaws.{unbuilt-among}
use Rattle.tt_calls.proofs.ClauseLaws.{clauses-none, clauses-more}
use Rattle.tt_calls.proofs.build.clauses.clauses_at.Goals as goal

pub loop-position-init : goal.loop-position-init
loop-position-init c = rw (c.in_ok-clauses.ensures.items) (clauses-none c.args.cx.now (told_all c.args.cx.now.rows c.args.earlier.now))

pub returns-in_err-clause-clause-err : goal.returns-in_err-clause-clause-err
returns-in_err-clause-clause-err c =
    let inside : c.loop-position.position-index < length c.args.positions.now = omega arith in
    passed c.from_residual-in_err-clause.result c.in_err-clause.field-0.0 _ c.from_residual-in_err-clause.ensures.1
    (unbuilt-among a_clause clause_shape (HasFullTable c.args.cx.now) (told_all c.args.cx.now.rows c.args.earlier.now) c.args.positions.now c.loop-position.position-index
    (get_or c.args.positions.now c.loop-position.position-index 0) c.in_err-clause.field-0.0
    (slice_get-get_or c.args.positions.now c.loop-position.position-index 0 inside) c.in_err-clause.ensures.part.err)

pub loop-position-preserved : goal.loop-position-preserved
loop-position-preserved c =
    let inside : c.loop-position.position-index < length c.args.positions.now = omega arith in
    rw (take_more c.args.positions.now c.loop-position.position-index 0 inside, c.in_ok-push.ensures.items)
    (clauses-more c.args.cx.now (told_all c.args.cx.now.rows c.args.earlier.now) _ _ _ _ c.loop-position.invariant c.in_ok-clause.ensures.part.ok c.in_ok-clause.ensures.clause)

pub returns-clause-ok : goal.returns-clause-ok
returns-clause-ok c =
    let ended : length c.args.positions.now ≤ c.loop-position.position-index = omega arith in
    subst (λ (ps : List ℕ). AreClausesAt c.args.cx.now (told_all c.args.cx.now.rows c.args.earlier.now) ps c.loop-position.clauses.items)
    (take_all c.loop-position.position-index c.args.positions.now ended) c.loop-position.invariant
