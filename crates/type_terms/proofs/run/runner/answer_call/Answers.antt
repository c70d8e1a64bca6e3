use Rattle.std.proofs.Common.{◌≡◌, false, true, refl, sym, ◌∙◌}
use Rattle.tt_calls.specs.Told.{told_all}
use Rattle.tt_calls.specs.Means.{no_term}
use Rattle.tt_calls.proofs.IdLaws.{ids-named}
use Rattle.type_terms.proofs.run.runner.answer_call.Goals as goal

pub answer_named-requires-clause-named : goal.answer_named-requires-clause-named
answer_named-requires-clause-named c = (c.call_is_declared.ensures c.args.cx.now.rows).0 c.if-call_is_declared.true

pub returns-else-call_is_declared-clause-allowed : goal.returns-else-call_is_declared-clause-allowed
returns-else-call_is_declared-clause-allowed c =
    no_term (λ n. let there = (c.call_is_declared.ensures c.args.cx.now.rows).1 (ids-named (told_all c.args.cx.now.rows c.args.earlier.now) c.args.call.now n) in
    let not : false ≡ true = sym c.if-call_is_declared.false ∙ there in absurd (cc)) refl
