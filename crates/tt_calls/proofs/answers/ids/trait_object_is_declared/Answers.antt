use Rattle.std.proofs.Common.{true, false, rules}
use Rattle.std.proofs.lemmas.Iterator.{YieldsList-from_slice, cases_from_all}
use Rattle.tt_calls.specs.CallForm.{existential_ids, existentials_ids, region_ids}
use Rattle.tt_calls.specs.Build.{TellsIds}
use Rattle.tt_calls.proofs.IdLaws.{all-told, both-told, first-untold}
use Rattle.tt_calls.proofs.answers.ids.trait_object_is_declared.Goals as goal

pub returns-then-all : goal.returns-then-all
returns-then-all c =
    let e = c.args.earlier.now in
    let xs = c.args.existentials.now in
    both-told e (existentials_ids xs) (region_ids c.args.region.now) _ _ c.if-all.true
    (all-told existential_ids e xs c.all.result
    (cases_from_all _ _ _ (λ x. TellsIds e (existential_ids x) true) (λ x. TellsIds e (existential_ids x) false) c.all.ensures.ran (YieldsList-from_slice xs cc) (λ x q k. search rules) (λ x q k. search rules)))
    c.region_is_declared.ensures

pub returns-else-all : goal.returns-else-all
returns-else-all c =
    let e = c.args.earlier.now in
    let xs = c.args.existentials.now in
    first-untold e (existentials_ids xs) (region_ids c.args.region.now) _ c.if-all.false
    (all-told existential_ids e xs c.all.result
    (cases_from_all _ _ _ (λ x. TellsIds e (existential_ids x) true) (λ x. TellsIds e (existential_ids x) false) c.all.ensures.ran (YieldsList-from_slice xs cc) (λ x q k. search rules) (λ x q k. search rules)))
