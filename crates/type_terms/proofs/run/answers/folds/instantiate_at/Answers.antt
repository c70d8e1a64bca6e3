use Rattle.std.proofs.Common.{◌++◌, refl, subst, sym}
use Rattle.std.specs.Prelude.{List, IfOk, IfErr}
use Rattle.tt_kinds.specs.declared.table.Table.TheVariants.{Types, Consts, Patterns, Predicates, ClauseLists, ArgLists}
use Rattle.tt_calls.specs.declared.call.ArgCall.{ArgCall}
use Rattle.tt_calls.specs.declared.call.Call.TheVariants as call
use Rattle.tt_calls.specs.CallForm.{items_positions, AreItemsTooDeep, arg_items, args_ids}
use Rattle.tt_calls.specs.Told.{told_all, setting}
use Rattle.tt_calls.specs.Means.{any}
use Rattle.tt_calls.specs.Build.{IsUnusable, IsUsable}
use Rattle.type_terms.specs.Parameters.{IsArgumentAt, LacksArgument}
use Rattle.tt_calls.proofs.PartLaws.{AreTerms-second}
use Rattle.tt_calls.proofs.BuildLaws.{answer-passed}
use Rattle.tt_calls.proofs.LookupLaws.{told-at, in_range-at, ty-handle, const-handle, pat-handle, predicate-handle}
use Rattle.tt_calls.proofs.LookupLaws.{clauses-handle, args-handle, no-handle, nothing-told}
use Rattle.tt_calls.proofs.LookupLaws.{absent-refused}
use Rattle.type_terms.proofs.FoldLaws.{unusable-refused}
use Rattle.type_terms.proofs.ParameterLaws.{argument-answers}
use Rattle.type_terms.proofs.run.answers.folds.instantiate_at.Goals as goal

pub returns-in_err-answer-clause-answers : goal.returns-in_err-answer-clause-answers
returns-in_err-answer-clause-answers c = λ list same ids.
    answer-passed c.args.cx.now c.args.cx.now (told_all c.args.cx.now.rows c.args.earlier.now) (call.Instantiate c.args.position list) c.from_residual.result c.in_err-answer.field-0.0 c.from_residual.ensures.1
    (absent-refused (setting c.args.cx.now c.args.cx.now) c.args.cx.now.rows c.args.earlier.now (any c.args.position) (args_ids list.items ++ items_positions (arg_items list.items)) (call.Instantiate c.args.position list) refl (λ h. h) c.in_err-answer.field-0.0
    c.in_err-answer.ensures.cause c.in_err-answer.ensures.absent)

pub parameter_of-requires : goal.parameter_of-requires
parameter_of-requires c = c.in_ok-answer.ensures.ok.owned c.args.cx.now.rows c.requires

pub returns-in_err-check_args-in-Some-clause-answers : goal.returns-in_err-check_args-in-Some-clause-answers
returns-in_err-check_args-in-Some-clause-answers c = λ list same ids.
    let e = told_all c.args.cx.now.rows c.args.earlier.now in
    let u = subst (λ (cs : List ArgCall). IsUnusable e (items_positions (arg_items cs)) (AreItemsTooDeep (arg_items cs)) c.in_err-check_args-in-Some.field-0.0)
    (sym same) c.in_err-check_args-in-Some.ensures.err in
    answer-passed c.args.cx.now c.args.cx.now e (call.Instantiate c.args.position list) c.from_residual-in_err-check_args-in-Some.result c.in_err-check_args-in-Some.field-0.0 c.from_residual-in_err-check_args-in-Some.ensures.1
    (unusable-refused (setting c.args.cx.now c.args.cx.now) e (call.Instantiate c.args.position list) (items_positions (arg_items list.items)) (AreItemsTooDeep (arg_items list.items))
    c.in_err-check_args-in-Some.field-0.0 (λ h. AreTerms-second e (args_ids list.items) (items_positions (arg_items list.items)) h.1) (λ d. d) u)

pub returns-in_ok-check_args-in-Some-clause-answers : goal.returns-in_ok-check_args-in-Some-clause-answers
returns-in_ok-check_args-in-Some-clause-answers c = λ list same ids.
    let e = told_all c.args.cx.now.rows c.args.earlier.now in
    let usable = subst (λ (cs : List ArgCall). IsUsable e (items_positions (arg_items cs)) (AreItemsTooDeep (arg_items cs))) (sym same) c.in_ok-check_args-in-Some.ensures.ok in
    let given = subst (λ (cs : List ArgCall). IfOk c.argument_for.result (IsArgumentAt c.args.earlier.now cs c.in-Some.parameter)) (sym same) c.argument_for.ensures.ok in
    let lacks = subst (λ (cs : List ArgCall). IfErr c.argument_for.result (LacksArgument c.args.earlier.now cs c.in-Some.parameter)) (sym same) c.argument_for.ensures.err in
    argument-answers c.args.cx.now c.args.earlier.now c.args.position c.in-Some.parameter list c.argument_for.result
    (rw (c.in_ok-answer.ensures.ok.means c.args.cx.now.rows) c.in-Some.ensures) ids usable c.requires given lacks

pub instantiate_term-requires-clause-term : goal.instantiate_term-requires-clause-term
instantiate_term-requires-clause-term c =
    in_range-at c.args.cx.now c.args.earlier.now c.args.position c.in_ok-answer.answer.now Types c.in-Ty.term.number c.in_ok-answer.ensures.ok (ty-handle c.in_ok-answer.answer.now c.in-Ty.term c.in-Ty.is) c.requires

pub instantiate_term-requires-clause-whole : goal.instantiate_term-requires-clause-whole
instantiate_term-requires-clause-whole c = rw (c.in-Ty.is) at c.in-None.ensures

pub returns-in-Ty-clause-answers : goal.returns-in-Ty-clause-answers
returns-in-Ty-clause-answers c = λ list.
    c.instantiate_term.ensures.answers c.args.position list
    (told-at c.args.cx.now c.args.earlier.now c.args.position c.in_ok-answer.answer.now Types c.in-Ty.term.number c.in_ok-answer.ensures.ok (ty-handle c.in_ok-answer.answer.now c.in-Ty.term c.in-Ty.is) c.args.cx.now.rows)

pub instantiate_term-requires-in-Const-clause-term : goal.instantiate_term-requires-in-Const-clause-term
instantiate_term-requires-in-Const-clause-term c =
    in_range-at c.args.cx.now c.args.earlier.now c.args.position c.in_ok-answer.answer.now Consts c.in-Const.term.number c.in_ok-answer.ensures.ok (const-handle c.in_ok-answer.answer.now c.in-Const.term c.in-Const.is) c.requires

pub instantiate_term-requires-in-Const-clause-whole : goal.instantiate_term-requires-in-Const-clause-whole
instantiate_term-requires-in-Const-clause-whole c = rw (c.in-Const.is) at c.in-None.ensures

pub returns-in-Const-clause-answers : goal.returns-in-Const-clause-answers
returns-in-Const-clause-answers c = λ list.
    c.instantiate_term-in-Const.ensures.answers c.args.position list
    (told-at c.args.cx.now c.args.earlier.now c.args.position c.in_ok-answer.answer.now Consts c.in-Const.term.number c.in_ok-answer.ensures.ok (const-handle c.in_ok-answer.answer.now c.in-Const.term c.in-Const.is) c.args.cx.now.rows)

pub instantiate_term-requires-in-Pat-clause-term : goal.instantiate_term-requires-in-Pat-clause-term
instantiate_term-requires-in-Pat-clause-term c =
    in_range-at c.args.cx.now c.args.earlier.now c.args.position c.in_ok-answer.answer.now Patterns c.in-Pat.term.number c.in_ok-answer.ensures.ok (pat-handle c.in_ok-answer.answer.now c.in-Pat.term c.in-Pat.is) c.requires

pub instantiate_term-requires-in-Pat-clause-whole : goal.instantiate_term-requires-in-Pat-clause-whole
instantiate_term-requires-in-Pat-clause-whole c = rw (c.in-Pat.is) at c.in-None.ensures

pub returns-in-Pat-clause-answers : goal.returns-in-Pat-clause-answers
returns-in-Pat-clause-answers c = λ list.
    c.instantiate_term-in-Pat.ensures.answers c.args.position list
    (told-at c.args.cx.now c.args.earlier.now c.args.position c.in_ok-answer.answer.now Patterns c.in-Pat.term.number c.in_ok-answer.ensures.ok (pat-handle c.in_ok-answer.answer.now c.in-Pat.term c.in-Pat.is) c.args.cx.now.rows)

pub instantiate_term-requires-in-Predicate-clause-term : goal.instantiate_term-requires-in-Predicate-clause-term
instantiate_term-requires-in-Predicate-clause-term c =
    in_range-at c.args.cx.now c.args.earlier.now c.args.position c.in_ok-answer.answer.now Predicates c.in-Predicate.term.number c.in_ok-answer.ensures.ok (predicate-handle c.in_ok-answer.answer.now c.in-Predicate.term c.in-Predicate.is) c.requires

pub instantiate_term-requires-in-Predicate-clause-whole : goal.instantiate_term-requires-in-Predicate-clause-whole
instantiate_term-requires-in-Predicate-clause-whole c = rw (c.in-Predicate.is) at c.in-None.ensures

pub returns-in-Predicate-clause-answers : goal.returns-in-Predicate-clause-answers
returns-in-Predicate-clause-answers c = λ list.
    c.instantiate_term-in-Predicate.ensures.answers c.args.position list
    (told-at c.args.cx.now c.args.earlier.now c.args.position c.in_ok-answer.answer.now Predicates c.in-Predicate.term.number c.in_ok-answer.ensures.ok (predicate-handle c.in_ok-answer.answer.now c.in-Predicate.term c.in-Predicate.is) c.args.cx.now.rows)

pub instantiate_term-requires-in-Clauses-clause-term : goal.instantiate_term-requires-in-Clauses-clause-term
instantiate_term-requires-in-Clauses-clause-term c =
    in_range-at c.args.cx.now c.args.earlier.now c.args.position c.in_ok-answer.answer.now ClauseLists c.in-Clauses.term.number c.in_ok-answer.ensures.ok (clauses-handle c.in_ok-answer.answer.now c.in-Clauses.term c.in-Clauses.is) c.requires

pub instantiate_term-requires-in-Clauses-clause-whole : goal.instantiate_term-requires-in-Clauses-clause-whole
instantiate_term-requires-in-Clauses-clause-whole c = rw (c.in-Clauses.is) at c.in-None.ensures

pub returns-in-Clauses-clause-answers : goal.returns-in-Clauses-clause-answers
returns-in-Clauses-clause-answers c = λ list.
    c.instantiate_term-in-Clauses.ensures.answers c.args.position list
    (told-at c.args.cx.now c.args.earlier.now c.args.position c.in_ok-answer.answer.now ClauseLists c.in-Clauses.term.number c.in_ok-answer.ensures.ok (clauses-handle c.in_ok-answer.answer.now c.in-Clauses.term c.in-Clauses.is) c.args.cx.now.rows)

pub instantiate_term-requires-in-Args-clause-term : goal.instantiate_term-requires-in-Args-clause-term
instantiate_term-requires-in-Args-clause-term c =
    in_range-at c.args.cx.now c.args.earlier.now c.args.position c.in_ok-answer.answer.now ArgLists c.in-Args.term.number c.in_ok-answer.ensures.ok (args-handle c.in_ok-answer.answer.now c.in-Args.term c.in-Args.is) c.requires

pub instantiate_term-requires-in-Args-clause-whole : goal.instantiate_term-requires-in-Args-clause-whole
instantiate_term-requires-in-Args-clause-whole c = rw (c.in-Args.is) at c.in-None.ensures

pub returns-in-Args-clause-answers : goal.returns-in-Args-clause-answers
returns-in-Args-clause-answers c = λ list.
    c.instantiate_term-in-Args.ensures.answers c.args.position list
    (told-at c.args.cx.now c.args.earlier.now c.args.position c.in_ok-answer.answer.now ArgLists c.in-Args.term.number c.in_ok-answer.ensures.ok (args-handle c.in_ok-answer.answer.now c.in-Args.term c.in-Args.is) c.args.cx.now.rows)

pub returns-in_default-clause-answers : goal.returns-in_default-clause-answers
returns-in_default-clause-answers c = λ list same ids. record {
  owned = tt;
  ok = tt;
  err = absent-refused (setting c.args.cx.now c.args.cx.now) c.args.cx.now.rows c.args.earlier.now (any c.args.position) (args_ids list.items ++ items_positions (arg_items list.items)) (call.Instantiate c.args.position list) refl (λ h. h) _ refl
      (nothing-told c.args.earlier.now c.args.position c.in_ok-answer.answer.now c.in_ok-answer.ensures.ok
      (no-handle c.in_ok-answer.answer.now c.in_default.not-Ty c.in_default.not-Const c.in_default.not-Pat c.in_default.not-Predicate c.in_default.not-Clauses c.in_default.not-Args));
}
