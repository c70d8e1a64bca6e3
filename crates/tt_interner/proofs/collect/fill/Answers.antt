-- one more item fills one more place
use Rattle.std.proofs.Common.{arith}
use Rattle.std.proofs.lemmas.List.{take_more_set}
use Rattle.tt_interner.proofs.CollectLaws.{yields-more}
use Rattle.tt_interner.proofs.collect.fill.Goals as goal

pub loop-index-preserved : goal.loop-index-preserved
loop-index-preserved g c =
    let on = c.in-Some.ensures.goes.on c.loop-index.invariant.1 in (
      on.0,
      on.1,
      rw (take_more_set c.loop-index.places c.loop-index.index c.in-Some.item (omega arith))
          (yields-more g.I.Iterator.next_gives _ _ _ _ _ c.loop-index.invariant.2 c.in-Some.ensures.steps),
    )
