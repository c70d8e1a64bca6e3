-- each exit: the values so far, and the calls of the iterator that gave them
use Rattle.std.proofs.Common.{rules, refl, [], ◌∷◌, inl, inr, lit<}
use Rattle.std.proofs.lemmas.Result.{IfErr-weaker, IfOk-weaker}
use Rattle.tt_interner.specs.Collect.{YieldsErr}
use Rattle.tt_interner.proofs.CollectLaws.{too-large}
use Rattle.tt_interner.proofs.collect.try_collect_and_apply.Goals as goal

pub returns-in_err-t0-clause-err : goal.returns-in_err-t0-clause-err
returns-in_err-t0-clause-err g c =
    let h : YieldsErr g.I.Iterator.next_gives c.args.iter c.in_err-t0.field-0.0 =
    ([], _, (_, refl, c.in_err-t0.ensures.steps)) in
    search rules

pub returns-in_err-t1-clause-err : goal.returns-in_err-t1-clause-err
returns-in_err-t1-clause-err g c =
    let h : YieldsErr g.I.Iterator.next_gives c.args.iter c.in_err-t1.field-0.0 =
    ((c.in-Some.t0 ∷ []), _, (_, (_, (rw c.in-Some.is at c.in_ok-t0.ensures.steps), refl), c.in_err-t1.ensures.steps)) in
    search rules

pub returns-in_err-t2-clause-err : goal.returns-in_err-t2-clause-err
returns-in_err-t2-clause-err g c =
    let h : YieldsErr g.I.Iterator.next_gives c.args.iter c.in_err-t2.field-0.0 =
    ((c.in-Some.t0 ∷ c.in-Some-2.t1 ∷ []), _, (_, (_, (rw c.in-Some.is at c.in_ok-t0.ensures.steps), (_, (rw c.in-Some-2.is at c.in_ok-t1.ensures.steps), refl)), c.in_err-t2.ensures.steps)) in
    search rules

pub returns-in_err-t3-clause-err : goal.returns-in_err-t3-clause-err
returns-in_err-t3-clause-err g c =
    let h : YieldsErr g.I.Iterator.next_gives c.args.iter c.in_err-t3.field-0.0 =
    ((c.in-Some.t0 ∷ c.in-Some-2.t1 ∷ c.in-Some-3.t2 ∷ []), _, (_, (_, (rw c.in-Some.is at c.in_ok-t0.ensures.steps), (_, (rw c.in-Some-2.is at c.in_ok-t1.ensures.steps), (_, (rw c.in-Some-3.is at c.in_ok-t2.ensures.steps), refl))), c.in_err-t3.ensures.steps)) in
    search rules

pub returns-in_err-t4-clause-err : goal.returns-in_err-t4-clause-err
returns-in_err-t4-clause-err g c =
    let h : YieldsErr g.I.Iterator.next_gives c.args.iter c.in_err-t4.field-0.0 =
    ((c.in-Some.t0 ∷ c.in-Some-2.t1 ∷ c.in-Some-3.t2 ∷ c.in-Some-4.t3 ∷ []), _, (_, (_, (rw c.in-Some.is at c.in_ok-t0.ensures.steps), (_, (rw c.in-Some-2.is at c.in_ok-t1.ensures.steps), (_, (rw c.in-Some-3.is at c.in_ok-t2.ensures.steps), (_, (rw c.in-Some-4.is at c.in_ok-t3.ensures.steps), refl)))), c.in_err-t4.ensures.steps)) in
    search rules

pub returns-in_err-t5-clause-err : goal.returns-in_err-t5-clause-err
returns-in_err-t5-clause-err g c =
    let h : YieldsErr g.I.Iterator.next_gives c.args.iter c.in_err-t5.field-0.0 =
    ((c.in-Some.t0 ∷ c.in-Some-2.t1 ∷ c.in-Some-3.t2 ∷ c.in-Some-4.t3 ∷ c.in-Some-5.t4 ∷ []), _, (_, (_, (rw c.in-Some.is at c.in_ok-t0.ensures.steps), (_, (rw c.in-Some-2.is at c.in_ok-t1.ensures.steps), (_, (rw c.in-Some-3.is at c.in_ok-t2.ensures.steps), (_, (rw c.in-Some-4.is at c.in_ok-t3.ensures.steps), (_, (rw c.in-Some-5.is at c.in_ok-t4.ensures.steps), refl))))), c.in_err-t5.ensures.steps)) in
    search rules

pub returns-in_err-t6-clause-err : goal.returns-in_err-t6-clause-err
returns-in_err-t6-clause-err g c =
    let h : YieldsErr g.I.Iterator.next_gives c.args.iter c.in_err-t6.field-0.0 =
    ((c.in-Some.t0 ∷ c.in-Some-2.t1 ∷ c.in-Some-3.t2 ∷ c.in-Some-4.t3 ∷ c.in-Some-5.t4 ∷ c.in-Some-6.t5 ∷ []), _, (_, (_, (rw c.in-Some.is at c.in_ok-t0.ensures.steps), (_, (rw c.in-Some-2.is at c.in_ok-t1.ensures.steps), (_, (rw c.in-Some-3.is at c.in_ok-t2.ensures.steps), (_, (rw c.in-Some-4.is at c.in_ok-t3.ensures.steps), (_, (rw c.in-Some-5.is at c.in_ok-t4.ensures.steps), (_, (rw c.in-Some-6.is at c.in_ok-t5.ensures.steps), refl)))))), c.in_err-t6.ensures.steps)) in
    search rules

pub returns-in_err-t7-clause-err : goal.returns-in_err-t7-clause-err
returns-in_err-t7-clause-err g c =
    let h : YieldsErr g.I.Iterator.next_gives c.args.iter c.in_err-t7.field-0.0 =
    ((c.in-Some.t0 ∷ c.in-Some-2.t1 ∷ c.in-Some-3.t2 ∷ c.in-Some-4.t3 ∷ c.in-Some-5.t4 ∷ c.in-Some-6.t5 ∷ c.in-Some-7.t6 ∷ []), _, (_, (_, (rw c.in-Some.is at c.in_ok-t0.ensures.steps), (_, (rw c.in-Some-2.is at c.in_ok-t1.ensures.steps), (_, (rw c.in-Some-3.is at c.in_ok-t2.ensures.steps), (_, (rw c.in-Some-4.is at c.in_ok-t3.ensures.steps), (_, (rw c.in-Some-5.is at c.in_ok-t4.ensures.steps), (_, (rw c.in-Some-6.is at c.in_ok-t5.ensures.steps), (_, (rw c.in-Some-7.is at c.in_ok-t6.ensures.steps), refl))))))), c.in_err-t7.ensures.steps)) in
    search rules

pub returns-in_err-t8-clause-err : goal.returns-in_err-t8-clause-err
returns-in_err-t8-clause-err g c =
    let h : YieldsErr g.I.Iterator.next_gives c.args.iter c.in_err-t8.field-0.0 =
    ((c.in-Some.t0 ∷ c.in-Some-2.t1 ∷ c.in-Some-3.t2 ∷ c.in-Some-4.t3 ∷ c.in-Some-5.t4 ∷ c.in-Some-6.t5 ∷ c.in-Some-7.t6 ∷ c.in-Some-8.t7 ∷ []), _, (_, (_, (rw c.in-Some.is at c.in_ok-t0.ensures.steps), (_, (rw c.in-Some-2.is at c.in_ok-t1.ensures.steps), (_, (rw c.in-Some-3.is at c.in_ok-t2.ensures.steps), (_, (rw c.in-Some-4.is at c.in_ok-t3.ensures.steps), (_, (rw c.in-Some-5.is at c.in_ok-t4.ensures.steps), (_, (rw c.in-Some-6.is at c.in_ok-t5.ensures.steps), (_, (rw c.in-Some-7.is at c.in_ok-t6.ensures.steps), (_, (rw c.in-Some-8.is at c.in_ok-t7.ensures.steps), refl)))))))), c.in_err-t8.ensures.steps)) in
    search rules

pub returns-in_default-clause-ok : goal.returns-in_default-clause-ok
returns-in_default-clause-ok g c =
    ([], (_, (_, refl, rw c.in_default.is at c.in_ok-t0.ensures.steps)), (_, c.f.ensures, refl))

pub returns-in_default-2-clause-ok : goal.returns-in_default-2-clause-ok
returns-in_default-2-clause-ok g c =
    ((c.in-Some.t0 ∷ []), (_, (_, (_, (rw c.in-Some.is at c.in_ok-t0.ensures.steps), refl), rw c.in_default-2.is at c.in_ok-t1.ensures.steps)), (_, c.f-in_default-2.ensures, refl))

pub returns-in_default-3-clause-ok : goal.returns-in_default-3-clause-ok
returns-in_default-3-clause-ok g c =
    ((c.in-Some.t0 ∷ c.in-Some-2.t1 ∷ []), (_, (_, (_, (rw c.in-Some.is at c.in_ok-t0.ensures.steps), (_, (rw c.in-Some-2.is at c.in_ok-t1.ensures.steps), refl)), rw c.in_default-3.is at c.in_ok-t2.ensures.steps)), (_, c.f-in_default-3.ensures, refl))

pub returns-in_default-4-clause-ok : goal.returns-in_default-4-clause-ok
returns-in_default-4-clause-ok g c =
    ((c.in-Some.t0 ∷ c.in-Some-2.t1 ∷ c.in-Some-3.t2 ∷ []), (_, (_, (_, (rw c.in-Some.is at c.in_ok-t0.ensures.steps), (_, (rw c.in-Some-2.is at c.in_ok-t1.ensures.steps), (_, (rw c.in-Some-3.is at c.in_ok-t2.ensures.steps), refl))), rw c.in_default-4.is at c.in_ok-t3.ensures.steps)), (_, c.f-in_default-4.ensures, refl))

pub returns-in_default-5-clause-ok : goal.returns-in_default-5-clause-ok
returns-in_default-5-clause-ok g c =
    ((c.in-Some.t0 ∷ c.in-Some-2.t1 ∷ c.in-Some-3.t2 ∷ c.in-Some-4.t3 ∷ []), (_, (_, (_, (rw c.in-Some.is at c.in_ok-t0.ensures.steps), (_, (rw c.in-Some-2.is at c.in_ok-t1.ensures.steps), (_, (rw c.in-Some-3.is at c.in_ok-t2.ensures.steps), (_, (rw c.in-Some-4.is at c.in_ok-t3.ensures.steps), refl)))), rw c.in_default-5.is at c.in_ok-t4.ensures.steps)), (_, c.f-in_default-5.ensures, refl))

pub returns-in_default-6-clause-ok : goal.returns-in_default-6-clause-ok
returns-in_default-6-clause-ok g c =
    ((c.in-Some.t0 ∷ c.in-Some-2.t1 ∷ c.in-Some-3.t2 ∷ c.in-Some-4.t3 ∷ c.in-Some-5.t4 ∷ []), (_, (_, (_, (rw c.in-Some.is at c.in_ok-t0.ensures.steps), (_, (rw c.in-Some-2.is at c.in_ok-t1.ensures.steps), (_, (rw c.in-Some-3.is at c.in_ok-t2.ensures.steps), (_, (rw c.in-Some-4.is at c.in_ok-t3.ensures.steps), (_, (rw c.in-Some-5.is at c.in_ok-t4.ensures.steps), refl))))), rw c.in_default-6.is at c.in_ok-t5.ensures.steps)), (_, c.f-in_default-6.ensures, refl))

pub returns-in_default-7-clause-ok : goal.returns-in_default-7-clause-ok
returns-in_default-7-clause-ok g c =
    ((c.in-Some.t0 ∷ c.in-Some-2.t1 ∷ c.in-Some-3.t2 ∷ c.in-Some-4.t3 ∷ c.in-Some-5.t4 ∷ c.in-Some-6.t5 ∷ []), (_, (_, (_, (rw c.in-Some.is at c.in_ok-t0.ensures.steps), (_, (rw c.in-Some-2.is at c.in_ok-t1.ensures.steps), (_, (rw c.in-Some-3.is at c.in_ok-t2.ensures.steps), (_, (rw c.in-Some-4.is at c.in_ok-t3.ensures.steps), (_, (rw c.in-Some-5.is at c.in_ok-t4.ensures.steps), (_, (rw c.in-Some-6.is at c.in_ok-t5.ensures.steps), refl)))))), rw c.in_default-7.is at c.in_ok-t6.ensures.steps)), (_, c.f-in_default-7.ensures, refl))

pub returns-in_default-8-clause-ok : goal.returns-in_default-8-clause-ok
returns-in_default-8-clause-ok g c =
    ((c.in-Some.t0 ∷ c.in-Some-2.t1 ∷ c.in-Some-3.t2 ∷ c.in-Some-4.t3 ∷ c.in-Some-5.t4 ∷ c.in-Some-6.t5 ∷ c.in-Some-7.t6 ∷ []), (_, (_, (_, (rw c.in-Some.is at c.in_ok-t0.ensures.steps), (_, (rw c.in-Some-2.is at c.in_ok-t1.ensures.steps), (_, (rw c.in-Some-3.is at c.in_ok-t2.ensures.steps), (_, (rw c.in-Some-4.is at c.in_ok-t3.ensures.steps), (_, (rw c.in-Some-5.is at c.in_ok-t4.ensures.steps), (_, (rw c.in-Some-6.is at c.in_ok-t5.ensures.steps), (_, (rw c.in-Some-7.is at c.in_ok-t6.ensures.steps), refl))))))), rw c.in_default-8.is at c.in_ok-t7.ensures.steps)), (_, c.f-in_default-8.ensures, refl))

pub returns-in_default-9-clause-ok : goal.returns-in_default-9-clause-ok
returns-in_default-9-clause-ok g c =
    ((c.in-Some.t0 ∷ c.in-Some-2.t1 ∷ c.in-Some-3.t2 ∷ c.in-Some-4.t3 ∷ c.in-Some-5.t4 ∷ c.in-Some-6.t5 ∷ c.in-Some-7.t6 ∷ c.in-Some-8.t7 ∷ []), (_, (_, (_, (rw c.in-Some.is at c.in_ok-t0.ensures.steps), (_, (rw c.in-Some-2.is at c.in_ok-t1.ensures.steps), (_, (rw c.in-Some-3.is at c.in_ok-t2.ensures.steps), (_, (rw c.in-Some-4.is at c.in_ok-t3.ensures.steps), (_, (rw c.in-Some-5.is at c.in_ok-t4.ensures.steps), (_, (rw c.in-Some-6.is at c.in_ok-t5.ensures.steps), (_, (rw c.in-Some-7.is at c.in_ok-t6.ensures.steps), (_, (rw c.in-Some-8.is at c.in_ok-t7.ensures.steps), refl)))))))), rw c.in_default-9.is at c.in_ok-t8.ensures.steps)), (_, c.f-in_default-9.ensures, refl))

pub returns-then-size_of_val-gt-MOST_BYTES-clause-ok : goal.returns-then-size_of_val-gt-MOST_BYTES-clause-ok
returns-then-size_of_val-gt-MOST_BYTES-clause-ok g c =
    IfOk-weaker c.apply_all.result _ _ (λ answer (rest, (u, (v, ys, none)), returns). ((c.in-Some.t0 ∷ rest), (u, (v, (_, (rw c.in-Some.is at c.in_ok-t0.ensures.steps), ys), none)), returns))
    (rw c.new.ensures.items at c.apply_all.ensures.ok)

pub returns-then-size_of_val-gt-MOST_BYTES-clause-err : goal.returns-then-size_of_val-gt-MOST_BYTES-clause-err
returns-then-size_of_val-gt-MOST_BYTES-clause-err g c =
    IfErr-weaker c.apply_all.result _ _ (λ e. elim [
      | inl (xs, u, (v, ys, last)) ↦ inl ((c.in-Some.t0 ∷ xs), u, (v, (_, (rw c.in-Some.is at c.in_ok-t0.ensures.steps), ys), last))
      | inr memory ↦ inr (memory, λ fit. absurd (too-large _ _ c.size_of_val.ensures c.if-size_of_val-gt-MOST_BYTES.true fit))
    ])
    c.apply_all.ensures.err

pub returns-in_default-from_array-clause-err : goal.returns-in_default-from_array-clause-err
returns-in_default-from_array-clause-err g c = inr (c.from.ensures, λ fit. ((c.in-Some.t0 ∷ c.in-Some-2.t1 ∷ c.in-Some-3.t2 ∷ c.in-Some-4.t3 ∷ c.in-Some-5.t4 ∷ c.in-Some-6.t5 ∷ c.in-Some-7.t6 ∷ c.in-Some-8.t7 ∷ c.in-Some-9.t8 ∷ []), _, (_, (rw c.in-Some.is at c.in_ok-t0.ensures.steps), (_, (rw c.in-Some-2.is at c.in_ok-t1.ensures.steps), (_, (rw c.in-Some-3.is at c.in_ok-t2.ensures.steps), (_, (rw c.in-Some-4.is at c.in_ok-t3.ensures.steps), (_, (rw c.in-Some-5.is at c.in_ok-t4.ensures.steps), (_, (rw c.in-Some-6.is at c.in_ok-t5.ensures.steps), (_, (rw c.in-Some-7.is at c.in_ok-t6.ensures.steps), (_, (rw c.in-Some-8.is at c.in_ok-t7.ensures.steps), (_, (rw c.in-Some-9.is at c.in_ok-t8.ensures.steps), refl))))))))), lit< tt))

pub apply_all-requires-2-clause-accepts : goal.apply_all-requires-2-clause-accepts
apply_all-requires-2-clause-accepts g c = λ rest (u, (v, ys, none)).
    rw c.in-Ok.ensures.items (c.requires.accepts (c.in-Some.t0 ∷ c.in-Some-2.t1 ∷ c.in-Some-3.t2 ∷ c.in-Some-4.t3 ∷ c.in-Some-5.t4 ∷ c.in-Some-6.t5 ∷ c.in-Some-7.t6 ∷ c.in-Some-8.t7 ∷ c.in-Some-9.t8 ∷ rest) (u, (v, (_, (rw c.in-Some.is at c.in_ok-t0.ensures.steps), (_, (rw c.in-Some-2.is at c.in_ok-t1.ensures.steps), (_, (rw c.in-Some-3.is at c.in_ok-t2.ensures.steps), (_, (rw c.in-Some-4.is at c.in_ok-t3.ensures.steps), (_, (rw c.in-Some-5.is at c.in_ok-t4.ensures.steps), (_, (rw c.in-Some-6.is at c.in_ok-t5.ensures.steps), (_, (rw c.in-Some-7.is at c.in_ok-t6.ensures.steps), (_, (rw c.in-Some-8.is at c.in_ok-t7.ensures.steps), (_, (rw c.in-Some-9.is at c.in_ok-t8.ensures.steps), ys))))))))), none)))

pub returns-clause-ok : goal.returns-clause-ok
returns-clause-ok g c =
    IfOk-weaker c.apply_all-2.result _ _ (λ answer (rest, (u, (v, ys, none)), returns). ((c.in-Some.t0 ∷ c.in-Some-2.t1 ∷ c.in-Some-3.t2 ∷ c.in-Some-4.t3 ∷ c.in-Some-5.t4 ∷ c.in-Some-6.t5 ∷ c.in-Some-7.t6 ∷ c.in-Some-8.t7 ∷ c.in-Some-9.t8 ∷ rest), (u, (v, (_, (rw c.in-Some.is at c.in_ok-t0.ensures.steps), (_, (rw c.in-Some-2.is at c.in_ok-t1.ensures.steps), (_, (rw c.in-Some-3.is at c.in_ok-t2.ensures.steps), (_, (rw c.in-Some-4.is at c.in_ok-t3.ensures.steps), (_, (rw c.in-Some-5.is at c.in_ok-t4.ensures.steps), (_, (rw c.in-Some-6.is at c.in_ok-t5.ensures.steps), (_, (rw c.in-Some-7.is at c.in_ok-t6.ensures.steps), (_, (rw c.in-Some-8.is at c.in_ok-t7.ensures.steps), (_, (rw c.in-Some-9.is at c.in_ok-t8.ensures.steps), ys))))))))), none)), returns))
    (rw c.in-Ok.ensures.items at c.apply_all-2.ensures.ok)

pub returns-clause-err : goal.returns-clause-err
returns-clause-err g c =
    IfErr-weaker c.apply_all-2.result _ _ (λ e. elim [
      | inl (xs, u, (v, ys, last)) ↦ inl ((c.in-Some.t0 ∷ c.in-Some-2.t1 ∷ c.in-Some-3.t2 ∷ c.in-Some-4.t3 ∷ c.in-Some-5.t4 ∷ c.in-Some-6.t5 ∷ c.in-Some-7.t6 ∷ c.in-Some-8.t7 ∷ c.in-Some-9.t8 ∷ xs), u, (v, (_, (rw c.in-Some.is at c.in_ok-t0.ensures.steps), (_, (rw c.in-Some-2.is at c.in_ok-t1.ensures.steps), (_, (rw c.in-Some-3.is at c.in_ok-t2.ensures.steps), (_, (rw c.in-Some-4.is at c.in_ok-t3.ensures.steps), (_, (rw c.in-Some-5.is at c.in_ok-t4.ensures.steps), (_, (rw c.in-Some-6.is at c.in_ok-t5.ensures.steps), (_, (rw c.in-Some-7.is at c.in_ok-t6.ensures.steps), (_, (rw c.in-Some-8.is at c.in_ok-t7.ensures.steps), (_, (rw c.in-Some-9.is at c.in_ok-t8.ensures.steps), ys))))))))), last))
      | inr memory ↦ inr (memory, λ fit. ((c.in-Some.t0 ∷ c.in-Some-2.t1 ∷ c.in-Some-3.t2 ∷ c.in-Some-4.t3 ∷ c.in-Some-5.t4 ∷ c.in-Some-6.t5 ∷ c.in-Some-7.t6 ∷ c.in-Some-8.t7 ∷ c.in-Some-9.t8 ∷ []), _, (_, (rw c.in-Some.is at c.in_ok-t0.ensures.steps), (_, (rw c.in-Some-2.is at c.in_ok-t1.ensures.steps), (_, (rw c.in-Some-3.is at c.in_ok-t2.ensures.steps), (_, (rw c.in-Some-4.is at c.in_ok-t3.ensures.steps), (_, (rw c.in-Some-5.is at c.in_ok-t4.ensures.steps), (_, (rw c.in-Some-6.is at c.in_ok-t5.ensures.steps), (_, (rw c.in-Some-7.is at c.in_ok-t6.ensures.steps), (_, (rw c.in-Some-8.is at c.in_ok-t7.ensures.steps), (_, (rw c.in-Some-9.is at c.in_ok-t8.ensures.steps), refl))))))))), lit< tt))
    ])
    c.apply_all-2.ensures.err
