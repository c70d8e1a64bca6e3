use Rattle.std.proofs.Common.{rules, ◌≡◌, ap, ◌∙◌}
use Rattle.test_terms.proofs.IterLaws.{drained}
use Rattle.test_terms.proofs.terms.args_from_iter.Goals as goal

pub mk_args_from_iter-requires-clause-items : goal.mk_args_from_iter-requires-clause-items
mk_args_from_iter-requires-clause-items c = λ xs d.
    let is : xs ≡ c.args.items.now = drained c.copied.result xs d ∙ ap (λ i. i.rest.now) c.copied.ensures.source ∙ c.iter.ensures.rest in
    rw is (search rules)
