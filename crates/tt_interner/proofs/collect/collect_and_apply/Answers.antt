-- the values that the closure makes of the items are the items
use Rattle.std.proofs.Common.{rules, inl, inr}
use Rattle.std.proofs.lemmas.Result.{IfErr-weaker, IfOk-weaker}
use Rattle.tt_interner.proofs.CollectLaws.{source-drains, source-many, no-error}
use Rattle.tt_interner.proofs.collect.collect_and_apply.Goals as goal

pub try_collect_and_apply-requires-clause-accepts : goal.try_collect_and_apply-requires-clause-accepts
try_collect_and_apply-requires-clause-accepts g c = λ values drains.
    c.requires.accepts values (source-drains g.I.Iterator.next_gives _ _ values _ _ c.map.ensures.source c.map.ensures.closure drains (λ x r q k. search rules))

pub returns-clause-ok : goal.returns-clause-ok
returns-clause-ok g c =
    IfOk-weaker c.try_collect_and_apply.result _ _
    (λ answer (values, drains, returns). (values, source-drains g.I.Iterator.next_gives _ _ values _ _ c.map.ensures.source c.map.ensures.closure drains (λ x r q k. search rules), returns))
    c.try_collect_and_apply.ensures.ok

pub returns-clause-err : goal.returns-clause-err
returns-clause-err g c =
    IfErr-weaker c.try_collect_and_apply.result _ _
    (λ e. elim [
      | inl error ↦ absurd (no-error g.I.Iterator.next_gives _ _ e _ c.map.ensures.closure error (λ x r q k. search rules))
      | inr (is, many) ↦ (is, λ fit. source-many g.I.Iterator.next_gives _ _ _ _ c.map.ensures.source c.map.ensures.closure (many fit) (λ x r q k. search rules))
    ])
    c.try_collect_and_apply.ensures.err
