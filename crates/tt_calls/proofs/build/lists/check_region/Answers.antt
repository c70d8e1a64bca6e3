use Rattle.std.proofs.Common.{◌≡◌, inl, inr}
use Rattle.tt_index.specs.declared.refusal.Refusal.TheVariants.{GreatestIndex}
use Rattle.tt_calls.proofs.ResultLaws.{passed}
use Rattle.tt_calls.proofs.BuildLaws.{IsBelowGreatest-or-not, not_both}
use Rattle.tt_calls.proofs.build.lists.check_region.Goals as goal

pub returns-in_err-new-in-ReBound-clause-err : goal.returns-in_err-new-in-ReBound-clause-err
returns-in_err-new-in-ReBound-clause-err c =
    let refused = c.in_err-new-in-ReBound in
    let index = c.in-ReBound.index in
    rw (c.in-ReBound.is)
    (passed c.from_residual.result refused.field-0.0 _ c.from_residual.ensures.1
    (elim (IsBelowGreatest-or-not index) [
      | inl s ↦ let never = refused.ensures.ok s in absurd (cc)
      | inr g ↦
          let deep = refused.ensures.deep (λ s. not_both index s g) in
          let is : refused.field-0.0 ≡ GreatestIndex = cc in (is, g)
    ]))

pub returns-in_ok-new-in-ReBound-clause-ok : goal.returns-in_ok-new-in-ReBound-clause-ok
returns-in_ok-new-in-ReBound-clause-ok c =
    rw (c.in-ReBound.is) (λ g. let never = c.in_ok-new-in-ReBound.ensures.deep (λ s. not_both c.in-ReBound.index s g) in absurd (cc))
