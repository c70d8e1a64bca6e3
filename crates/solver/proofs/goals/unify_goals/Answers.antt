use Rattle.std.proofs.Common.{◌≡◌, length, ap, sym, ◌∙◌, subst}
use Rattle.solver.specs.Refutation.{AreTypes, EquatesItems}
use Rattle.solver.proofs.ArgumentLaws.{arguments_read}
use Rattle.solver.proofs.EquationLaws.{goals_equated, numbers_differ, one_trait}
use Rattle.solver.proofs.OutcomeLaws.{if_ok}
use Rattle.solver.proofs.SearchLaws.{continues_itself}
use Rattle.solver.proofs.goals.unify_goals.Goals as goal

pub returns-then-ne-clause-continues : goal.returns-then-ne-clause-continues
returns-then-ne-clause-continues c = continues_itself c.requires.table

pub returns-in_err-lefts-clause-continues : goal.returns-in_err-lefts-clause-continues
returns-in_err-lefts-clause-continues c = continues_itself c.requires.table

pub returns-in_err-rights-clause-continues : goal.returns-in_err-rights-clause-continues
returns-in_err-rights-clause-continues c = continues_itself c.requires.table

pub returns-then-ne-clause-forced : goal.returns-then-ne-clause-forced
returns-then-ne-clause-forced c = λ tl tr ρ is equates.
    absurd (numbers_differ c.args.left.trait_ref.def_id.number c.args.right.trait_ref.def_id.number (sym c.ne.ensures ∙ c.if-ne.true)
    (one_trait ρ c.args.cx.now c.args.left c.args.right equates))

pub returns-clause-forced : goal.returns-clause-forced
returns-clause-forced c =
    let cx = c.args.cx.now in
    let lefts = c.as_slice-3.result.now in
    let rights = c.as_slice-4.result.now in
    let left-items = c.as_slice.ensures in
    let right-items = c.as_slice-2.ensures in
    let left-same : lefts ≡ c.as_slice.result.now = c.as_slice-3.ensures.value ∙ c.in_ok-lefts.ensures.items in
    let right-same : rights ≡ c.as_slice-2.result.now = c.as_slice-4.ensures.value ∙ c.in_ok-rights.ensures.items in
    if_ok _ _ c.unify_items.result
    (λ found forced tl tr ρ is equates.
    let both = goals_equated ρ cx c.args.left c.args.right c.as_slice.result.now c.as_slice-2.result.now left-items right-items equates in
    forced (subst AreTypes (arguments_read cx c.args.left.trait_ref.args c.as_slice.result.now left-items ∙ sym left-same) tl)
    (subst AreTypes (arguments_read cx c.args.right.trait_ref.args c.as_slice-2.result.now right-items ∙ sym right-same) tr)
    (ap length left-same ∙ both.0 ∙ ap length (sym right-same)) ρ is
    (subst (λ xs. EquatesItems cx xs rights ρ) (sym left-same)
    (subst (λ ys. EquatesItems cx c.as_slice.result.now ys ρ) (sym right-same) both.1)))
    c.unify_items.ensures.forced
