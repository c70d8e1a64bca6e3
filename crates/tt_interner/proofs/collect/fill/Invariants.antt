-- the filled places hold the items that came
use Rattle.std.proofs.Common.{take}
use Rattle.std.specs.Iterator.{Yields, IsFinite}
use Rattle.tt_interner.proofs.collect.fill.Given as goal

abbrev pub invariant-loop-index : goal.invariant-loop-index
invariant-loop-index g l =
    g.I.Iterator.can_next l.iter
    × IsFinite (g.I.Iterator.remaining l.iter)
    × Yields g.I.Iterator.next_gives l.fn.iter (take l.index l.places) l.iter
