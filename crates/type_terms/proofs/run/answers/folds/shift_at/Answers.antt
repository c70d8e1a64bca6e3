use Rattle.std.proofs.Common.{[], refl}
use Rattle.tt_kinds.specs.declared.table.Table.TheVariants.{Types, Consts, Patterns, Predicates, ClauseLists, ArgLists}
use Rattle.tt_calls.specs.declared.call.Call.TheVariants as call
use Rattle.tt_calls.specs.Told.{told_all, setting}
use Rattle.tt_calls.specs.Means.{any}
use Rattle.tt_calls.proofs.BuildLaws.{answer-passed}
use Rattle.tt_calls.proofs.LookupLaws.{told-at, in_range-at, ty-handle, const-handle, pat-handle, predicate-handle}
use Rattle.tt_calls.proofs.LookupLaws.{clauses-handle, args-handle, no-handle, nothing-told}
use Rattle.tt_calls.proofs.LookupLaws.{absent-refused}
use Rattle.type_terms.proofs.run.answers.folds.shift_at.Goals as goal

pub returns-in_err-answer-clause-answers : goal.returns-in_err-answer-clause-answers
returns-in_err-answer-clause-answers c =
    answer-passed c.args.cx.now c.args.cx.now (told_all c.args.cx.now.rows c.args.earlier.now) (call.Shift c.args.position c.args.amount) c.from_residual.result c.in_err-answer.field-0.0 c.from_residual.ensures.1
    (absent-refused (setting c.args.cx.now c.args.cx.now) c.args.cx.now.rows c.args.earlier.now (any c.args.position) [] (call.Shift c.args.position c.args.amount) refl (λ h. h) c.in_err-answer.field-0.0
    c.in_err-answer.ensures.cause c.in_err-answer.ensures.absent)

pub shifted-requires : goal.shifted-requires
shifted-requires c =
    in_range-at c.args.cx.now c.args.earlier.now c.args.position c.in_ok-answer.answer.now Types c.in-Ty.term.number c.in_ok-answer.ensures.ok (ty-handle c.in_ok-answer.answer.now c.in-Ty.term c.in-Ty.is) c.requires

pub returns-in-Ty-clause-answers : goal.returns-in-Ty-clause-answers
returns-in-Ty-clause-answers c =
    c.shifted.ensures.answers (told_all c.args.cx.now.rows c.args.earlier.now) c.args.position
    (told-at c.args.cx.now c.args.earlier.now c.args.position c.in_ok-answer.answer.now Types c.in-Ty.term.number c.in_ok-answer.ensures.ok (ty-handle c.in_ok-answer.answer.now c.in-Ty.term c.in-Ty.is) c.args.cx.now.rows)

pub shifted-requires-in-Const : goal.shifted-requires-in-Const
shifted-requires-in-Const c =
    in_range-at c.args.cx.now c.args.earlier.now c.args.position c.in_ok-answer.answer.now Consts c.in-Const.term.number c.in_ok-answer.ensures.ok (const-handle c.in_ok-answer.answer.now c.in-Const.term c.in-Const.is) c.requires

pub returns-in-Const-clause-answers : goal.returns-in-Const-clause-answers
returns-in-Const-clause-answers c =
    c.shifted-in-Const.ensures.answers (told_all c.args.cx.now.rows c.args.earlier.now) c.args.position
    (told-at c.args.cx.now c.args.earlier.now c.args.position c.in_ok-answer.answer.now Consts c.in-Const.term.number c.in_ok-answer.ensures.ok (const-handle c.in_ok-answer.answer.now c.in-Const.term c.in-Const.is) c.args.cx.now.rows)

pub shifted-requires-in-Pat : goal.shifted-requires-in-Pat
shifted-requires-in-Pat c =
    in_range-at c.args.cx.now c.args.earlier.now c.args.position c.in_ok-answer.answer.now Patterns c.in-Pat.term.number c.in_ok-answer.ensures.ok (pat-handle c.in_ok-answer.answer.now c.in-Pat.term c.in-Pat.is) c.requires

pub returns-in-Pat-clause-answers : goal.returns-in-Pat-clause-answers
returns-in-Pat-clause-answers c =
    c.shifted-in-Pat.ensures.answers (told_all c.args.cx.now.rows c.args.earlier.now) c.args.position
    (told-at c.args.cx.now c.args.earlier.now c.args.position c.in_ok-answer.answer.now Patterns c.in-Pat.term.number c.in_ok-answer.ensures.ok (pat-handle c.in_ok-answer.answer.now c.in-Pat.term c.in-Pat.is) c.args.cx.now.rows)

pub shifted-requires-in-Predicate : goal.shifted-requires-in-Predicate
shifted-requires-in-Predicate c =
    in_range-at c.args.cx.now c.args.earlier.now c.args.position c.in_ok-answer.answer.now Predicates c.in-Predicate.term.number c.in_ok-answer.ensures.ok (predicate-handle c.in_ok-answer.answer.now c.in-Predicate.term c.in-Predicate.is) c.requires

pub returns-in-Predicate-clause-answers : goal.returns-in-Predicate-clause-answers
returns-in-Predicate-clause-answers c =
    c.shifted-in-Predicate.ensures.answers (told_all c.args.cx.now.rows c.args.earlier.now) c.args.position
    (told-at c.args.cx.now c.args.earlier.now c.args.position c.in_ok-answer.answer.now Predicates c.in-Predicate.term.number c.in_ok-answer.ensures.ok (predicate-handle c.in_ok-answer.answer.now c.in-Predicate.term c.in-Predicate.is) c.args.cx.now.rows)

pub shifted-requires-in-Clauses : goal.shifted-requires-in-Clauses
shifted-requires-in-Clauses c =
    in_range-at c.args.cx.now c.args.earlier.now c.args.position c.in_ok-answer.answer.now ClauseLists c.in-Clauses.term.number c.in_ok-answer.ensures.ok (clauses-handle c.in_ok-answer.answer.now c.in-Clauses.term c.in-Clauses.is) c.requires

pub returns-in-Clauses-clause-answers : goal.returns-in-Clauses-clause-answers
returns-in-Clauses-clause-answers c =
    c.shifted-in-Clauses.ensures.answers (told_all c.args.cx.now.rows c.args.earlier.now) c.args.position
    (told-at c.args.cx.now c.args.earlier.now c.args.position c.in_ok-answer.answer.now ClauseLists c.in-Clauses.term.number c.in_ok-answer.ensures.ok (clauses-handle c.in_ok-answer.answer.now c.in-Clauses.term c.in-Clauses.is) c.args.cx.now.rows)

pub shifted-requires-in-Args : goal.shifted-requires-in-Args
shifted-requires-in-Args c =
    in_range-at c.args.cx.now c.args.earlier.now c.args.position c.in_ok-answer.answer.now ArgLists c.in-Args.term.number c.in_ok-answer.ensures.ok (args-handle c.in_ok-answer.answer.now c.in-Args.term c.in-Args.is) c.requires

pub returns-in-Args-clause-answers : goal.returns-in-Args-clause-answers
returns-in-Args-clause-answers c =
    c.shifted-in-Args.ensures.answers (told_all c.args.cx.now.rows c.args.earlier.now) c.args.position
    (told-at c.args.cx.now c.args.earlier.now c.args.position c.in_ok-answer.answer.now ArgLists c.in-Args.term.number c.in_ok-answer.ensures.ok (args-handle c.in_ok-answer.answer.now c.in-Args.term c.in-Args.is) c.args.cx.now.rows)

pub returns-in_default-clause-answers : goal.returns-in_default-clause-answers
returns-in_default-clause-answers c = record {
  owned = tt;
  ok = tt;
  err = absent-refused (setting c.args.cx.now c.args.cx.now) c.args.cx.now.rows c.args.earlier.now (any c.args.position) [] (call.Shift c.args.position c.args.amount) refl (λ h. h) _ refl
      (nothing-told c.args.earlier.now c.args.position c.in_ok-answer.answer.now c.in_ok-answer.ensures.ok
      (no-handle c.in_ok-answer.answer.now c.in_default.not-Ty c.in_default.not-Const c.in_default.not-Pat c.in_default.not-Predicate c.in_default.not-Clauses c.in_default.not-Args));
}
