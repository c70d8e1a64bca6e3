use Rattle.std.proofs.Common.{true, false, rules}
use Rattle.std.proofs.lemmas.Iterator.{YieldsList-from_slice, cases_from_all}
use Rattle.tt_calls.specs.CallForm.{variable_ids}
use Rattle.tt_calls.specs.Build.{TellsIds}
use Rattle.tt_calls.proofs.IdLaws.{all-told}
use Rattle.tt_calls.proofs.answers.ids.variables_are_declared.Goals as goal

pub returns : goal.returns
returns c =
    let e = c.args.earlier.now in
    let xs = c.args.vars.now in
    all-told variable_ids e xs c.all.result
    (cases_from_all _ _ _ (λ x. TellsIds e (variable_ids x) true) (λ x. TellsIds e (variable_ids x) false) c.all.ensures.ran (YieldsList-from_slice xs cc) (λ x q k. search rules) (λ x q k. search rules))
