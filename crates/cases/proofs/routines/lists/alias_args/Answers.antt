use Rattle.std.proofs.Common.{rules, ◌≡◌, ap, ◌∙◌}
use Rattle.test_terms.proofs.IterLaws.{drained}
use Rattle.cases.proofs.routines.lists.alias_args.Goals as goal

pub new-requires-clause-items : goal.new-requires-clause-items
new-requires-clause-items c = λ xs d.
    let is : xs ≡ c.args.items.now = drained c.copied.result xs d ∙ ap (λ i. i.rest.now) c.copied.ensures.source ∙ c.iter.ensures.rest in
    rw is (search rules)
