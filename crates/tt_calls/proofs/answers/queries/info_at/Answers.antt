use Rattle.std.proofs.Common.{[], refl}
use Rattle.std.specs.Prelude.{◌≢◌}
use Rattle.tt_kinds.specs.declared.table.Table.TheVariants.{Types, Consts, Patterns, Predicates, ClauseLists, ArgLists}
use Rattle.tt_interner.specs.Rows.{meaning}
use Rattle.tt_calls.specs.declared.call.Call.TheVariants as call
use Rattle.tt_calls.specs.CallForm.{with_flags}
use Rattle.tt_calls.specs.Told.{setting}
use Rattle.tt_calls.proofs.LookupLaws.{told-at, in_range-at, ty-handle, const-handle, pat-handle, predicate-handle}
use Rattle.tt_calls.proofs.LookupLaws.{clauses-handle}
use Rattle.tt_calls.proofs.LookupLaws.{absent-refused}
use Rattle.tt_calls.proofs.QueryLaws.{info-allowed, args-refused, only-args}
use Rattle.tt_calls.proofs.answers.queries.info_at.Goals as goal

pub returns-in_default : goal.returns-in_default
returns-in_default c =
    absent-refused (setting c.args.cx.now c.args.cx.now) c.args.cx.now.rows c.args.earlier.now (record { want = with_flags; position = c.args.position }) [] (call.Info c.args.position) refl (λ h. h) _ refl c.in_default.ensures.absent

pub info-requires : goal.info-requires
info-requires c =
    in_range-at c.args.cx.now c.args.earlier.now c.args.position c.in-Ok.answer.now Types c.in-Ty.ty.number c.in-Ok.ensures.ok (ty-handle c.in-Ok.answer.now c.in-Ty.ty c.in-Ty.is) c.requires

pub returns-in-Ty : goal.returns-in-Ty
returns-in-Ty c =
    let other : Types ≢ ArgLists = λ e. absurd (cc) in
    info-allowed (setting c.args.cx.now c.args.cx.now) c.args.cx.now.rows c.args.earlier.now c.args.position Types (meaning c.args.cx.now.rows Types c.in-Ty.ty.number) c.info.result
    (told-at c.args.cx.now c.args.earlier.now c.args.position c.in-Ok.answer.now Types c.in-Ty.ty.number c.in-Ok.ensures.ok (ty-handle c.in-Ok.answer.now c.in-Ty.ty c.in-Ty.is) c.args.cx.now.rows)
    other c.info.ensures

pub info-requires-in-Const : goal.info-requires-in-Const
info-requires-in-Const c =
    in_range-at c.args.cx.now c.args.earlier.now c.args.position c.in-Ok.answer.now Consts c.in-Const.constant.number c.in-Ok.ensures.ok (const-handle c.in-Ok.answer.now c.in-Const.constant c.in-Const.is) c.requires

pub returns-in-Const : goal.returns-in-Const
returns-in-Const c =
    let other : Consts ≢ ArgLists = λ e. absurd (cc) in
    info-allowed (setting c.args.cx.now c.args.cx.now) c.args.cx.now.rows c.args.earlier.now c.args.position Consts (meaning c.args.cx.now.rows Consts c.in-Const.constant.number) c.info-in-Const.result
    (told-at c.args.cx.now c.args.earlier.now c.args.position c.in-Ok.answer.now Consts c.in-Const.constant.number c.in-Ok.ensures.ok (const-handle c.in-Ok.answer.now c.in-Const.constant c.in-Const.is) c.args.cx.now.rows)
    other c.info-in-Const.ensures

pub info-requires-in-Pat : goal.info-requires-in-Pat
info-requires-in-Pat c =
    in_range-at c.args.cx.now c.args.earlier.now c.args.position c.in-Ok.answer.now Patterns c.in-Pat.pat.number c.in-Ok.ensures.ok (pat-handle c.in-Ok.answer.now c.in-Pat.pat c.in-Pat.is) c.requires

pub returns-in-Pat : goal.returns-in-Pat
returns-in-Pat c =
    let other : Patterns ≢ ArgLists = λ e. absurd (cc) in
    info-allowed (setting c.args.cx.now c.args.cx.now) c.args.cx.now.rows c.args.earlier.now c.args.position Patterns (meaning c.args.cx.now.rows Patterns c.in-Pat.pat.number) c.info-in-Pat.result
    (told-at c.args.cx.now c.args.earlier.now c.args.position c.in-Ok.answer.now Patterns c.in-Pat.pat.number c.in-Ok.ensures.ok (pat-handle c.in-Ok.answer.now c.in-Pat.pat c.in-Pat.is) c.args.cx.now.rows)
    other c.info-in-Pat.ensures

pub info-requires-in-Predicate : goal.info-requires-in-Predicate
info-requires-in-Predicate c =
    in_range-at c.args.cx.now c.args.earlier.now c.args.position c.in-Ok.answer.now Predicates c.in-Predicate.predicate.number c.in-Ok.ensures.ok (predicate-handle c.in-Ok.answer.now c.in-Predicate.predicate c.in-Predicate.is) c.requires

pub returns-in-Predicate : goal.returns-in-Predicate
returns-in-Predicate c =
    let other : Predicates ≢ ArgLists = λ e. absurd (cc) in
    info-allowed (setting c.args.cx.now c.args.cx.now) c.args.cx.now.rows c.args.earlier.now c.args.position Predicates (meaning c.args.cx.now.rows Predicates c.in-Predicate.predicate.number) c.info-in-Predicate.result
    (told-at c.args.cx.now c.args.earlier.now c.args.position c.in-Ok.answer.now Predicates c.in-Predicate.predicate.number c.in-Ok.ensures.ok (predicate-handle c.in-Ok.answer.now c.in-Predicate.predicate c.in-Predicate.is) c.args.cx.now.rows)
    other c.info-in-Predicate.ensures

pub info-requires-in-Clauses : goal.info-requires-in-Clauses
info-requires-in-Clauses c =
    in_range-at c.args.cx.now c.args.earlier.now c.args.position c.in-Ok.answer.now ClauseLists c.in-Clauses.clauses.number c.in-Ok.ensures.ok (clauses-handle c.in-Ok.answer.now c.in-Clauses.clauses c.in-Clauses.is) c.requires

pub returns-in-Clauses : goal.returns-in-Clauses
returns-in-Clauses c =
    let other : ClauseLists ≢ ArgLists = λ e. absurd (cc) in
    info-allowed (setting c.args.cx.now c.args.cx.now) c.args.cx.now.rows c.args.earlier.now c.args.position ClauseLists (meaning c.args.cx.now.rows ClauseLists c.in-Clauses.clauses.number) c.info-in-Clauses.result
    (told-at c.args.cx.now c.args.earlier.now c.args.position c.in-Ok.answer.now ClauseLists c.in-Clauses.clauses.number c.in-Ok.ensures.ok (clauses-handle c.in-Ok.answer.now c.in-Clauses.clauses c.in-Clauses.is) c.args.cx.now.rows)
    other c.info-in-Clauses.ensures

pub returns-in_default-answer : goal.returns-in_default-answer
returns-in_default-answer c =
    args-refused (setting c.args.cx.now c.args.cx.now) c.args.cx.now.rows c.args.earlier.now c.args.position c.in-Ok.answer.now c.in-Ok.ensures.ok
    (only-args c.in-Ok.answer.now c.in_default-answer.not-Ty c.in_default-answer.not-Const c.in_default-answer.not-Pat c.in_default-answer.not-Predicate c.in_default-answer.not-Clauses c.args.cx.now.rows)
