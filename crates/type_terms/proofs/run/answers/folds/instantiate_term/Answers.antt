use Rattle.std.proofs.Common.{◌∙◌, subst, sym}
use Rattle.std.specs.Prelude.{List, Option, IsSomeAnd}
use Rattle.tt_kinds.specs.Shape.{fill}
use Rattle.tt_interner.proofs.Growth.{Extends-trans, in_range-grows}
use Rattle.tt_calls.specs.declared.call.ArgCall.{ArgCall}
use Rattle.tt_calls.specs.declared.call.Call.TheVariants as call
use Rattle.tt_calls.specs.CallForm.{items_positions, AreItemsTooDeep, arg_items, args_ids}
use Rattle.tt_calls.specs.Told.{told_all, HasFullTable, setting}
use Rattle.tt_calls.specs.Means.{Term, IsUntouchedTerm, IsParameter}
use Rattle.tt_calls.specs.Build.{AreArgumentsOf, IsUnbuiltPart, IsUnusable, IsUsable}
use Rattle.tt_calls.proofs.PartLaws.{AreTerms-second}
use Rattle.tt_calls.proofs.BuildLaws.{answer-passed, unbuilt-refused, MayAnswerCall-earlier}
use Rattle.tt_calls.proofs.LookupLaws.{told-later}
use Rattle.type_terms.proofs.FoldLaws.{inst-adds, unusable-refused, untouched-allowed}
use Rattle.type_terms.proofs.run.answers.folds.instantiate_term.Goals as goal

pub is_untouched-requires : goal.is_untouched-requires
is_untouched-requires g c = rw (g.met.T.FoldedHandle.is_stored c.args.term) c.requires.term

pub returns-in_err-check_args-clause-answers : goal.returns-in_err-check_args-clause-answers
returns-in_err-check_args-clause-answers g c = λ p list at same ids.
    let e = told_all c.args.cx.now.rows c.args.earlier.now in
    let u = subst (λ (cs : List ArgCall). IsUnusable e (items_positions (arg_items cs)) (AreItemsTooDeep (arg_items cs)) c.in_err-check_args.field-0.0)
    (sym same) c.in_err-check_args.ensures.err in
    answer-passed c.args.cx.now c.args.cx.now e (call.Instantiate p list) c.from_residual.result c.in_err-check_args.field-0.0 c.from_residual.ensures.1
    (unusable-refused (setting c.args.cx.now c.args.cx.now) e (call.Instantiate p list) (items_positions (arg_items list.items)) (AreItemsTooDeep (arg_items list.items))
    c.in_err-check_args.field-0.0 (λ h. AreTerms-second e (args_ids list.items) (items_positions (arg_items list.items)) h.1) (λ d. d) u)

pub returns-then-is_untouched-clause-answers : goal.returns-then-is_untouched-clause-answers
unfolding fill
returns-then-is_untouched-clause-answers g c = λ p list at same ids.
    let e = told_all c.args.cx.now.rows c.args.earlier.now in
    let usable = subst (λ (cs : List ArgCall). IsUsable e (items_positions (arg_items cs)) (AreItemsTooDeep (arg_items cs))) (sym same) c.in_ok-check_args.ensures.ok in
    record {
      owned = c.into_answer.ensures.owns c.args.cx.now.rows c.requires.term;
      ok = rw (c.into_answer.ensures.told c.args.cx.now.rows)
          (untouched-allowed c.args.cx.now e p g.T.TermHandle.table (g.T.TermHandle.number c.args.term) at c.requires.term list ids usable
          ((rw (g.met.T.FoldedHandle.is_stored c.args.term) at c.is_untouched.ensures).0 c.if-is_untouched.true));
      err = tt;
    }

pub returns-in_err-args-clause-answers : goal.returns-in_err-args-clause-answers
unfolding fill
returns-in_err-args-clause-answers g c = λ p list at same ids.
    let e = told_all c.args.cx.now.rows c.args.earlier.now in
    let u = subst (λ (cs : List ArgCall). IsUnbuiltPart (HasFullTable c.build_args.new.cx) e (items_positions (arg_items cs)) (AreItemsTooDeep (arg_items cs)) c.in_err-args.field-0.0)
    (sym same) c.in_err-args.ensures.args.err in
    answer-passed c.args.cx.now c.build_args.new.cx e (call.Instantiate p list) c.from_residual-in_err-args.result c.in_err-args.field-0.0 c.from_residual-in_err-args.ensures.1
    (unbuilt-refused (setting c.args.cx.now c.build_args.new.cx) e (call.Instantiate p list) (items_positions (arg_items list.items)) (AreItemsTooDeep (arg_items list.items))
    c.in_err-args.field-0.0 tt (λ a. inst-adds (setting c.args.cx.now c.build_args.new.cx) e p list a
    (λ none. let built = c.in_err-args.ensures.none (sym same ∙ none) in absurd (cc))
    (λ b. let held = (rw (g.met.T.FoldedHandle.is_stored c.args.term) at c.is_untouched.ensures).1 (subst (λ (o : Option Term). IsSomeAnd o IsUntouchedTerm) at b) in absurd (cc))
    (λ b. absurd (c.requires.whole (subst (λ (o : Option Term). IsSomeAnd o IsParameter) at b))))
    (λ h. AreTerms-second e (args_ids list.items) (items_positions (arg_items list.items)) h.1) (λ d. d) u)

pub instantiated-requires-clause-term : goal.instantiated-requires-clause-term
instantiated-requires-clause-term g c =
    in_range-grows c.args.cx.now.rows c.build_args.new.cx.rows c.build_args.ensures.extends.rows g.T.TermHandle.table (g.T.TermHandle.number c.args.term) c.requires.term

pub instantiated-requires-clause-args : goal.instantiated-requires-clause-args
instantiated-requires-clause-args g c = rw (c.as_slice.ensures.value) c.in_ok-args.ensures.args.ok.items.parts

pub returns-clause-extends : goal.returns-clause-extends
returns-clause-extends g c = Extends-trans c.build_args.ensures.extends c.instantiated.ensures.extends

pub returns-clause-answers : goal.returns-clause-answers
returns-clause-answers g c = λ p list at same ids.
    let e = told_all c.args.cx.now.rows c.args.earlier.now in
    let k = subst (λ (cs : List ArgCall). AreArgumentsOf c.build_args.new.cx e cs c.in_ok-args.args.items) (sym same) c.in_ok-args.ensures.args.ok in
    MayAnswerCall-earlier c.args.cx.now c.build_args.new.cx c.instantiated.new.cx e (call.Instantiate p list) c.instantiated.result c.build_args.ensures.extends
    (c.instantiated.ensures.answers e p list
    (told-later c.args.cx.now c.build_args.new.cx e p g.T.TermHandle.table (g.T.TermHandle.number c.args.term) at c.build_args.ensures.extends c.requires.term)
    ids (rw (c.as_slice.ensures.value) k))
