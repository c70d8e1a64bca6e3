use Rattle.tt_kinds.specs.Shape.{fill_all}
use Rattle.tt_visit.specs.Visit.{all_seen}
use Rattle.tt_visit.proofs.ItemSteps.{part-item, item-seen, item-broke, items-seen}
use Rattle.tt_visit.proofs.visitable.visit_values.Goals as goal

pub loop-index-init : goal.loop-index-init
unfolding fill_all
loop-index-init g c = (c.requires.owned, all_seen)

pub visit_with-requires-clause-value : goal.visit_with-requires-clause-value
visit_with-requires-clause-value g c = part-item g.T.TypeVisitable.shape _ c.args.values.now c.loop-index.index _ c.index-values-index.is c.loop-index-test.true c.requires.values

pub returns-in-Break-clause-result : goal.returns-in-Break-clause-result
returns-in-Break-clause-result g c =
    item-broke g.T.TypeVisitable.shape _ _ c.args.values.now c.loop-index.index _ _ _ _ _ c.index-values-index.is c.loop-index-test.true c.loop-index.invariant.1 c.in-Break.ensures.result

pub loop-index-preserved : goal.loop-index-preserved
loop-index-preserved g c = (
  c.in-Continue.ensures.owned,
  item-seen g.T.TypeVisitable.shape _ _ c.args.values.now c.loop-index.index _ _ _ _ c.index-values-index.is c.loop-index-test.true c.loop-index.invariant.1 c.in-Continue.ensures.result,
)

pub returns-clause-result : goal.returns-clause-result
returns-clause-result g c = items-seen g.T.TypeVisitable.shape _ _ _ _ _ _ c.loop-index-test.false c.loop-index.invariant.1
