use Rattle.std.proofs.Common.{sym, ap, ◌∙◌, arith}
use Rattle.std.specs.Prelude.{eqb, if◌then◌else◌, Some}
use Rattle.std.proofs.lemmas.List.{take_all}
use Rattle.tt_interner.proofs.Growth.{Extends-refl, Extends-trans}
use Rattle.unify.specs.Substitution.{variable_tree}
use Rattle.canonical.specs.Canonical.{numbered}
use Rattle.canonical.proofs.ListingLaws.{numbered_more}
use Rattle.canonical.proofs.NumberSteps.{none_owned, none_stored}
use Rattle.canonical.proofs.numbers.numbers_of.Goals as goal

pub loop-place-init : goal.loop-place-init
loop-place-init c = record {
  extends = Extends-refl c.args.cx.now;
  owned = rw c.new-numbers.ensures.empty (none_owned c.args.cx.now);
  binds = λ v. rw c.new-numbers.ensures.empty (none_stored c.args.cx.now v);
}

pub loop-place-preserved : goal.loop-place-preserved
loop-place-preserved c =
    let v = c.index-variables-place.result in
    record {
      extends = Extends-trans c.loop-place.invariant.extends c.add_number.ensures.extends;
      owned = c.in_ok-add_number.ensures.owned;
      binds = λ w. c.in_ok-add_number.ensures.binds w
          ∙ ap (λ o. if eqb w v then Some (variable_tree c.loop-place.place) else o) (c.loop-place.invariant.binds w)
          ∙ numbered_more c.args.variables.now c.loop-place.place v v c.loop-place-test.true
          (sym c.index-variables-place.is) c.requires w;
    }

pub returns-clause-numbered : goal.returns-clause-numbered
returns-clause-numbered c = λ v.
    c.loop-place.invariant.binds v
    ∙ ap (λ vs. numbered vs v) (take_all c.loop-place.place c.args.variables.now
    (omega (arith, c.loop-place-test.false)))
