-- the values so far are these, the next one, and the ones that came
use Rattle.std.proofs.Common.{◌≡◌, ◌++◌, ◌∷◌, List, map, Ok}
use Rattle.tt_interner.proofs.collect.apply_all.Given as goal

abbrev pub invariant-loop-value : goal.invariant-loop-value
invariant-loop-value g l =
    (goal.iterator-loop-value g).can_next l.value-iterator
    × (goal.iterator-loop-value g).is_finite l.value-iterator
    × ((came : List g.row.T.Denot) × (l.yielded ≡ map Ok came) × (l.values.items ≡ l.fn.values.items ++ l.fn.next ∷ came))
